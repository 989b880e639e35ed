-- What the options of a subcommand spell, given the values that were parsed for them. A positional
-- argument counts as an option here.
use Rattle.std.specs.Prelude.{◌≡◌, ℕ, List, Option, None, Some, Bool, true, false, is_some, is_none, ◌&&◌, codes, bytes_eq, if◌then◌else◌, unwrap_or, String, Vec, string_bytes}
use Rattle.clap.specs.declared.parser.matches.ArgMatches.{ArgMatches}
use Rattle.clap.specs.Matches.{found_of}
use Rattle.clap.specs.Walk.{Row, rows_of, first_of, one_of}
use Rattle.ndn_tlv.specs.Element.{Field}
use Rattle.ndn_names.specs.ReadsAs.{ReadsAs}
use Rattle.ndn_jobs.specs.declared.job.KeyChoice.{KeyChoice}
use Rattle.ndn_jobs.specs.declared.job.InterestJob.{InterestJob}
use Rattle.ndn_jobs.specs.declared.job.LinkJob.{LinkJob}
use Rattle.ndn_jobs.specs.declared.job.DataJob.{DataJob}
use Rattle.ndn_requests.specs.declared.parameters.Parameters.{Parameters}
use Rattle.ndn_jobs.specs.declared.job.Stamp.{Stamp}
use Rattle.ndn_jobs.specs.declared.job.Ports.{Ports}
use Rattle.ndn_jobs.specs.declared.job.CommandJob.{CommandJob}
use Rattle.ndn_jobs.specs.declared.job.TagJob.{TagJob}
use Rattle.ndn_jobs.specs.declared.job.ExplainJob.{ExplainJob}
use Rattle.ndn_jobs.specs.declared.job.SendJob.{SendJob}
use Rattle.ndn_jobs.specs.Endpoint.{IsEndpoint}
use Rattle.ndn_jobs.specs.Value.{IsNumber, IsHops, IsPeriod, IsPort, AreOctets, IsPacket, IsNonce, IsTokenText}

-- the parsed values of all options
abbrev pub rows_in : ArgMatches → List Row
rows_in options = rows_of (found_of options)

-- the first value of an option, or None if the option has no value
abbrev pub value_at : List Row → List ℕ → Option (List ℕ)
value_at rows id = first_of id rows

-- the value of a flag
abbrev pub flag_at : List Row → List ℕ → Option (List ℕ)
flag_at rows id = one_of id rows

-- the value of a path option is the path itself
abbrev pub IsPath : {Z : Type 0} → List ℕ → String Z → Type 0
IsPath value path = string_bytes path ≡ value

-- the option is given, and its value spells `x`
abbrev pub Has : {A : Type 0} → Option (List ℕ) → (List ℕ → A → Type 0) → A → Type 0
Has value Spells x = (w : List ℕ) × (value ≡ Some w) × Spells w x

-- either the option is not given, and the last argument is None; or the option spells a value, and
-- the last argument is `Some` with this value
abbrev pub MayHave : {A : Type 0} → Option (List ℕ) → (List ℕ → A → Type 0) → Option A → Type 0
MayHave value Spells None = value ≡ None
MayHave value Spells (Some x) = Has value Spells x

-- the value that the option spells or, if the option is not given, the default `other`
abbrev pub HasOr : {A : Type 0} → A → Option (List ℕ) → (List ℕ → A → Type 0) → A → Type 0
HasOr {A} other value Spells x =
    (given : Option A) × MayHave value Spells given × (x ≡ unwrap_or given other)

abbrev pub IsFlag : Option (List ℕ) → Bool → Type 0
IsFlag said b =
    (said ≡ Some (codes "true") → b ≡ true)
    × (said ≡ Some (codes "false") → b ≡ false)
    × (said ≡ None → b ≡ false)

-- the words `best-route` and `multicast` stand for the URIs of these strategies, and any other word
-- stands for itself
abbrev pub strategy_uri : List ℕ → List ℕ
strategy_uri word =
    if bytes_eq word (codes "best-route") then codes "/localhost/nfd/strategy/best-route" else (
    if bytes_eq word (codes "multicast") then codes "/localhost/nfd/strategy/multicast" else
    word)

abbrev pub SpellsStrategy : List ℕ → List Field → Type 0
SpellsStrategy word name = ReadsAs (strategy_uri word) name

pub record IsKeyChoice (rows : List Row) (choice : KeyChoice) : Type 0 where
  pub keys : MayHave (value_at rows (codes "keys")) IsPath choice.keys
  pub key : MayHave (value_at rows (codes "key")) ReadsAs choice.key

-- the destination and the source port of a packet; a source port requires a destination
pub record IsPorts (target source : Option (List ℕ)) (ports : Ports) : Type 0 where
  pub to : MayHave target IsEndpoint ports.to
  pub from : MayHave source IsPort ports.from
  pub pair : is_none ports.to && is_some ports.from ≡ false

-- neither a destination nor a source port is given, so the packet is not sent
abbrev pub AreNoPorts : Ports → Type 0
AreNoPorts ports = (ports.to ≡ None) × (ports.from ≡ None)

pub record IsInterestJob (rows : List Row) (job : InterestJob) : Type 0 where
  pub name : Has (value_at rows (codes "URI")) ReadsAs job.name
  pub can_be_prefix : IsFlag (flag_at rows (codes "can-be-prefix")) job.can_be_prefix
  pub must_be_fresh : IsFlag (flag_at rows (codes "must-be-fresh")) job.must_be_fresh
  pub nonce : Has (value_at rows (codes "nonce")) IsNonce job.nonce
  pub lifetime : MayHave (value_at rows (codes "lifetime")) IsNumber job.lifetime
  pub hop_limit : MayHave (value_at rows (codes "hop-limit")) IsHops job.hop_limit
  pub parameters : MayHave (value_at rows (codes "parameters")) AreOctets job.parameters
  pub time : MayHave (value_at rows (codes "time")) IsNumber job.time
  pub seq : MayHave (value_at rows (codes "seq")) IsNumber job.seq
  pub key : IsKeyChoice rows job.key

pub record IsLinkJob (rows : List Row) (job : LinkJob) : Type 0 where
  pub interest : IsInterestJob rows job.interest
  pub token : MayHave (value_at rows (codes "token")) IsTokenText job.token

pub record IsDataJob (rows : List Row) (job : DataJob) : Type 0 where
  pub name : Has (value_at rows (codes "URI")) ReadsAs job.name
  pub content : MayHave (value_at rows (codes "content")) AreOctets job.content
  pub freshness : MayHave (value_at rows (codes "freshness")) IsNumber job.freshness
  pub key : IsKeyChoice rows job.key

-- the command parameters that the options of the subcommand `command` give
pub record AreParameters (rows : List Row) (p : Parameters) : Type 0 where
  pub name : Has (value_at rows (codes "name")) ReadsAs p.name
  pub face : MayHave (value_at rows (codes "face")) IsNumber p.face
  pub origin : MayHave (value_at rows (codes "origin")) IsNumber p.origin
  pub cost : MayHave (value_at rows (codes "cost")) IsNumber p.cost
  pub flags : MayHave (value_at rows (codes "flags")) IsNumber p.flags
  pub expires : MayHave (value_at rows (codes "expires")) IsNumber p.expires
  pub strategy : MayHave (value_at rows (codes "strategy")) ReadsAs p.strategy
  pub count : MayHave (value_at rows (codes "count")) IsNumber p.count
  pub can_be_prefix : IsFlag (flag_at rows (codes "can-be-prefix")) p.can_be_prefix
  pub lifetime : MayHave (value_at rows (codes "lifetime")) IsNumber p.lifetime

pub record IsStamp (rows : List Row) (stamp : Stamp) : Type 0 where
  pub nonce : Has (value_at rows (codes "nonce")) IsNonce stamp.nonce
  pub time : Has (value_at rows (codes "time")) IsNumber stamp.time
  pub seq : MayHave (value_at rows (codes "seq")) IsNumber stamp.seq
  pub key : IsKeyChoice rows stamp.key
  pub ports : AreNoPorts stamp.ports
  pub timeout : stamp.timeout ≡ None

pub record IsCommandJob (rows : List Row) (job : CommandJob) : Type 0 where
  pub name : Has (value_at rows (codes "URI")) ReadsAs job.name
  pub parameters : AreParameters rows job.parameters
  pub stamp : IsStamp rows job.stamp

pub record IsTagJob (rows : List Row) (job : TagJob) : Type 0 where
  pub octets : Has (value_at rows (codes "HEX")) AreOctets job.octets
  pub keys : Has (value_at rows (codes "keys")) IsPath job.keys
  pub key : Has (value_at rows (codes "key")) ReadsAs job.key

pub record IsExplainJob (rows : List Row) (job : ExplainJob) : Type 0 where
  pub packet : Has (value_at rows (codes "HEX")) IsPacket job.packet
  pub keys : MayHave (value_at rows (codes "keys")) IsPath job.keys

pub record IsSendJob (rows : List Row) (job : SendJob) : Type 0 where
  pub packet : Has (value_at rows (codes "HEX")) IsPacket job.packet
  pub to : Has (value_at rows (codes "to")) IsEndpoint job.to
  pub from : MayHave (value_at rows (codes "from")) IsPort job.from
  pub timeout : MayHave (value_at rows (codes "timeout")) IsPeriod job.timeout

-- the octets that the argument of `show` spells
abbrev pub IsShowJob : {Z : Type 0} → List Row → Vec ℕ Z → Type 0
IsShowJob rows octets = Has (value_at rows (codes "HEX")) AreOctets octets
