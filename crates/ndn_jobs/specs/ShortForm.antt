-- The short forms of the node's commands: the action of each short form, and the parameters that
-- its options give.
use Rattle.std.specs.Prelude.{◌≡◌, ℕ, List, Option, None, Some, Bool, true, false, is_some, is_none, ◌&&◌, ◌||◌, codes, find, bytes_eq}
use Rattle.clap.specs.Walk.{Row}
use Rattle.ndn_names.specs.ReadsAs.{ReadsAs}
use Rattle.ndn_packets.specs.declared.command_types.TheConstants.{COST, ORIGIN, FLAGS, EXPIRATION_PERIOD}
use Rattle.mgmt_core.specs.declared.action.Action.{Action}
use Rattle.mgmt_core.specs.declared.action.Action.TheVariants.{AddNexthop, RemoveNexthop, Register, Unregister, SetStrategy, UnsetStrategy, EraseCache}
use Rattle.mgmt_core.specs.Commands.{actions, row_of, takes}
use Rattle.ndn_requests.specs.declared.parameters.Parameters.{Parameters}
use Rattle.ndn_requests.specs.Commands.{node_name}
use Rattle.ndn_jobs.specs.declared.job.Stamp.{Stamp}
use Rattle.ndn_jobs.specs.declared.job.CommandJob.{CommandJob}
use Rattle.ndn_jobs.specs.Value.{IsNumber, IsNonce, IsPeriod}
use Rattle.ndn_jobs.specs.Options.{value_at, Has, MayHave, HasOr, IsKeyChoice, IsPorts, SpellsStrategy}
use Rattle.ndn_jobs.specs.Nonce.{nonce_of}

-- ---- the words of the short forms

-- whether the subcommand is the word `first`, and the verb is the word `second`
abbrev pub words_are : List ℕ → List ℕ → List ℕ → List ℕ → Bool
words_are subcommand verb first second = bytes_eq subcommand first && bytes_eq verb second

-- whether the subcommand and the verb stand for the action
abbrev pub is_named : List ℕ → List ℕ → Action → Bool
is_named subcommand verb AddNexthop = words_are subcommand verb (codes "route") (codes "add")
is_named subcommand verb RemoveNexthop = words_are subcommand verb (codes "route") (codes "remove")
is_named subcommand verb Register = words_are subcommand verb (codes "route") (codes "register")
is_named subcommand verb Unregister =
    words_are subcommand verb (codes "route") (codes "unregister")
is_named subcommand verb SetStrategy = words_are subcommand verb (codes "strategy") (codes "set")
is_named subcommand verb UnsetStrategy =
    words_are subcommand verb (codes "strategy") (codes "unset")
is_named subcommand verb EraseCache = words_are subcommand verb (codes "cache") (codes "erase")

abbrev pub action_of : List ℕ → List ℕ → Option Action
action_of subcommand verb = find (is_named subcommand verb) actions

-- the subcommand and the verb stand for this action
abbrev pub IsVerb : List ℕ → List ℕ → Action → Type 0
IsVerb subcommand verb action = action_of subcommand verb ≡ Some action

-- whether the value of an option is allowed: the option is absent, or the action's command has a
-- field of the type `kind`
abbrev pub may_give : Action → ℕ → Option (List ℕ) → Bool
may_give action kind value = takes kind (row_of action) || is_none value

-- whether the options suit a command on routes: a face is given, and the command has a field for
-- each given option among `cost`, `origin`, `flags` and `expires`
abbrev pub fits_route : Action → List Row → Bool
fits_route action rows =
    is_some (value_at rows (codes "face"))
    && may_give action COST (value_at rows (codes "cost"))
    && may_give action ORIGIN (value_at rows (codes "origin"))
    && may_give action FLAGS (value_at rows (codes "flags"))
    && may_give action EXPIRATION_PERIOD (value_at rows (codes "expires"))

-- whether the options suit the action: the options of a command on routes satisfy `fits_route`; a
-- strategy is required for `SetStrategy`, and is not allowed for `UnsetStrategy`
abbrev pub fits : Action → List Row → Bool
fits AddNexthop rows = fits_route AddNexthop rows
fits RemoveNexthop rows = fits_route RemoveNexthop rows
fits Register rows = fits_route Register rows
fits Unregister rows = fits_route Unregister rows
fits SetStrategy rows = is_some (value_at rows (codes "STRATEGY"))
fits UnsetStrategy rows = is_none (value_at rows (codes "STRATEGY"))
fits EraseCache rows = true

-- ---- what the options spell

pub record AreShortParameters (rows : List Row) (p : Parameters) : Type 0 where
  pub name : Has (value_at rows (codes "PREFIX")) ReadsAs p.name
  pub face : MayHave (value_at rows (codes "face")) IsNumber p.face
  pub origin : MayHave (value_at rows (codes "origin")) IsNumber p.origin
  pub cost : MayHave (value_at rows (codes "cost")) IsNumber p.cost
  pub flags : MayHave (value_at rows (codes "flags")) IsNumber p.flags
  pub expires : MayHave (value_at rows (codes "expires")) IsNumber p.expires
  pub strategy : MayHave (value_at rows (codes "STRATEGY")) SpellsStrategy p.strategy
  pub count : MayHave (value_at rows (codes "count")) IsNumber p.count
  pub can_be_prefix : p.can_be_prefix ≡ false
  pub lifetime : p.lifetime ≡ None

-- the stamp of a short form: if no time is given, the time is `now`; if no Nonce is given, the
-- Nonce is computed from the time and the seed (`seed_of`)
pub record IsShortStamp (now : ℕ) (seed : List ℕ) (rows : List Row) (stamp : Stamp)
    : Type 0 where
  pub time : HasOr now (value_at rows (codes "time")) IsNumber stamp.time
  pub nonce : HasOr (nonce_of stamp.time seed) (value_at rows (codes "nonce")) IsNonce stamp.nonce
  pub seq : MayHave (value_at rows (codes "seq")) IsNumber stamp.seq
  pub key : IsKeyChoice rows stamp.key
  pub ports : IsPorts (value_at rows (codes "send")) (value_at rows (codes "from")) stamp.ports
  pub timeout : MayHave (value_at rows (codes "timeout")) IsPeriod stamp.timeout

pub record IsFormJob (action : Action) (now : ℕ) (seed : List ℕ) (rows : List Row)
    (job : CommandJob) : Type 0 where
  pub fitting : fits action rows ≡ true
  pub name : job.name ≡ node_name action
  pub parameters : AreShortParameters rows job.parameters
  pub stamp : IsShortStamp now seed rows job.stamp

-- the command that the options of the subcommand with this name describe
abbrev pub IsShortJob : ℕ → List ℕ → List ℕ → List Row → CommandJob → Type 0
IsShortJob now seed subcommand rows job =
    (action : Action) × Has (value_at rows (codes "VERB")) (IsVerb subcommand) action
    × IsFormJob action now seed rows job
