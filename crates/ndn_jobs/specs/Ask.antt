-- The jobs of `route list`, `strategy list` and `peek`: an unsigned Interest, and what is printed
-- of the answer. If no destination port is given, the Interest itself is printed.
use Rattle.std.specs.Prelude.{◌≡◌, ℕ, List, Option, None, Some, Bool, true, false, is_none, ◌&&◌, codes, bytes_eq, if◌then◌else◌}
use Rattle.clap.specs.Walk.{Row}
use Rattle.ndn_names.specs.ReadsAs.{ReadsAs}
use Rattle.ndn_requests.specs.declared.names.NodeList.{NodeList}
use Rattle.ndn_requests.specs.declared.names.NodeList.TheVariants.{Routes, Strategies}
use Rattle.ndn_requests.specs.declared.exchange.View.{View}
use Rattle.ndn_requests.specs.declared.exchange.View.TheVariants.{Lines, Content, Table}
use Rattle.ndn_requests.specs.Lists.{list_name}
use Rattle.ndn_jobs.specs.declared.job.InterestJob.{InterestJob}
use Rattle.ndn_jobs.specs.declared.job.AskJob.{AskJob}
use Rattle.ndn_jobs.specs.Value.{IsNumber, IsNonce, IsPeriod}
use Rattle.ndn_jobs.specs.Options.{value_at, flag_at, Has, MayHave, HasOr, IsFlag, IsPath, IsPorts}
use Rattle.ndn_jobs.specs.Nonce.{nonce_of}

-- an Interest without a hop limit, parameters or a signature; if no Nonce is given, the Nonce is
-- computed from the time and the seed (`seed_of`)
pub record IsPlainInterest (now : ℕ) (seed : List ℕ) (rows : List Row) (i : InterestJob)
    : Type 0 where
  pub nonce : HasOr (nonce_of now seed) (value_at rows (codes "nonce")) IsNonce i.nonce
  pub hop_limit : i.hop_limit ≡ None
  pub parameters : i.parameters ≡ None
  pub time : i.time ≡ None
  pub seq : i.seq ≡ None
  pub keys : i.key.keys ≡ None
  pub key : i.key.key ≡ None

-- ---- lists

abbrev pub is_word : List ℕ → Option (List ℕ) → Bool
is_word word None = false
is_word word (Some said) = bytes_eq said word

abbrev pub is_list : List Row → Bool
is_list rows = is_word (codes "list") (value_at rows (codes "VERB"))

-- whether the argument is not given
abbrev pub lacks : List Row → List ℕ → Bool
lacks rows id = is_none (value_at rows id)

-- whether the arguments suit the verb `list`; this verb allows the options for the Nonce, the ports
-- and the timeout, and no other arguments
abbrev pub is_alone : List Row → Bool
is_alone rows =
    lacks rows (codes "PREFIX") && lacks rows (codes "face") && lacks rows (codes "cost")
    && lacks rows (codes "origin") && lacks rows (codes "flags") && lacks rows (codes "expires")
    && lacks rows (codes "STRATEGY") && lacks rows (codes "time") && lacks rows (codes "seq")
    && lacks rows (codes "keys") && lacks rows (codes "key")

-- which list a subcommand requests: the list of routes for the subcommand `route`, and the list of
-- strategies for any other subcommand
abbrev pub list_of : List ℕ → NodeList
list_of subcommand = if bytes_eq subcommand (codes "route") then Routes else Strategies

-- the Interest for the first segment of a list, whatever the list's version
pub record IsListJob (now : ℕ) (seed subcommand : List ℕ) (rows : List Row) (job : AskJob)
    : Type 0 where
  pub alone : is_alone rows ≡ true
  pub view : job.view ≡ Table (list_of subcommand)
  pub name : job.interest.name ≡ list_name (list_of subcommand)
  pub can_be_prefix : job.interest.can_be_prefix ≡ true
  pub must_be_fresh : job.interest.must_be_fresh ≡ true
  pub lifetime : job.interest.lifetime ≡ None
  pub plain : IsPlainInterest now seed rows job.interest
  pub ports : IsPorts (value_at rows (codes "send")) (value_at rows (codes "from")) job.ports
  pub timeout : MayHave (value_at rows (codes "timeout")) IsPeriod job.timeout
  pub retries : job.retries ≡ 0
  pub keys : job.keys ≡ None
  pub unverified : job.unverified ≡ false

-- ---- one Data

abbrev pub view_of : Bool → View
view_of raw = if raw then Content else Lines

pub record IsPeekJob (now : ℕ) (seed : List ℕ) (rows : List Row) (job : AskJob) : Type 0 where
  pub raw : Bool
  pub said : IsFlag (flag_at rows (codes "raw")) raw
  pub view : job.view ≡ view_of raw
  pub name : Has (value_at rows (codes "URI")) ReadsAs job.interest.name
  pub can_be_prefix : IsFlag (flag_at rows (codes "can-be-prefix")) job.interest.can_be_prefix
  pub must_be_fresh : IsFlag (flag_at rows (codes "must-be-fresh")) job.interest.must_be_fresh
  pub lifetime : MayHave (value_at rows (codes "lifetime")) IsNumber job.interest.lifetime
  pub plain : IsPlainInterest now seed rows job.interest
  pub ports : IsPorts (value_at rows (codes "to")) (value_at rows (codes "from")) job.ports
  pub timeout : MayHave (value_at rows (codes "timeout")) IsPeriod job.timeout
  pub retries : HasOr 0 (value_at rows (codes "retries")) IsNumber job.retries
  pub keys : MayHave (value_at rows (codes "keys")) IsPath job.keys
  pub unverified : IsFlag (flag_at rows (codes "unverified")) job.unverified
