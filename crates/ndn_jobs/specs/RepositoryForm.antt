-- The short forms of a repository's commands: what `repo VERB PREFIX NAME` and its options spell.
use Rattle.std.specs.Prelude.{◌≡◌, ◌≤◌, ℕ, List, [], ◌∷◌, ◌++◌, length, Bool, true, ◌||◌, None, codes, bytes_eq}
use Rattle.clap.specs.Walk.{Row}
use Rattle.ndn_tlv.specs.Element.{Field}
use Rattle.ndn_names.specs.declared.component_type.TheConstants.{GENERIC}
use Rattle.ndn_names.specs.ReadsAs.{ReadsAs}
use Rattle.ndn_requests.specs.declared.parameters.Parameters.{Parameters}
use Rattle.ndn_jobs.specs.declared.job.CommandJob.{CommandJob}
use Rattle.ndn_jobs.specs.Value.{IsNumber}
use Rattle.ndn_jobs.specs.Options.{value_at, flag_at, Has, MayHave, IsFlag}
use Rattle.ndn_jobs.specs.ShortForm.{IsShortStamp}

abbrev pub is_repository_verb : List ℕ → Bool
is_repository_verb word =
    bytes_eq word (codes "insert") || bytes_eq word (codes "delete")
    || bytes_eq word (codes "check")

-- `verb` is equal to `word`, and is `insert`, `delete` or `check`
abbrev pub IsRepositoryVerb : List ℕ → List ℕ → Type 0
IsRepositoryVerb word verb = (verb ≡ word) × (is_repository_verb word ≡ true)

-- the name of the command: the prefix of the repository, followed by the verb as one component; the
-- name has at most 64 components
pub record IsRepositoryName (rows : List Row) (name : List Field) : Type 0 where
  pub verb : List ℕ
  pub prefix : List Field
  pub named : Has (value_at rows (codes "VERB")) IsRepositoryVerb verb
  pub placed : Has (value_at rows (codes "PREFIX")) ReadsAs prefix
  pub whole : name ≡ prefix ++ (GENERIC, verb) ∷ []
  pub room : length name ≤ 64

pub record AreRepositoryParameters (rows : List Row) (p : Parameters) : Type 0 where
  pub name : Has (value_at rows (codes "NAME")) ReadsAs p.name
  pub face : p.face ≡ None
  pub origin : p.origin ≡ None
  pub cost : p.cost ≡ None
  pub flags : p.flags ≡ None
  pub expires : p.expires ≡ None
  pub strategy : p.strategy ≡ None
  pub count : p.count ≡ None
  pub can_be_prefix : IsFlag (flag_at rows (codes "can-be-prefix")) p.can_be_prefix
  pub lifetime : MayHave (value_at rows (codes "lifetime")) IsNumber p.lifetime

-- the command that the options of the subcommand `repo` describe at the time `now`; a Nonce is
-- computed from the time and `seed` (`seed_of`)
pub record IsRepositoryJob (now : ℕ) (seed : List ℕ) (rows : List Row) (job : CommandJob)
    : Type 0 where
  pub name : IsRepositoryName rows job.name
  pub parameters : AreRepositoryParameters rows job.parameters
  pub stamp : IsShortStamp now seed rows job.stamp
