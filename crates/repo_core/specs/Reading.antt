-- Reading a command's name: the repository's prefix, the verb, the parameters, and the digest of
-- the Interest's parameters.
use Rattle.std.specs.Prelude.{ℕ, ◌+◌, List, [], ◌∷◌, length, Bool, true, false, not, ◌==◌, Option, None, Some, Result, Ok, Err, slice_get, if◌then◌else◌}
use Rattle.std.specs.List.{list_all}
use Rattle.ndn_tlv.specs.declared.fault.TlvFault.{TlvFault}
use Rattle.ndn_tlv.specs.Element.{Field}
use Rattle.ndn_tlv.specs.Fields.{Elements, first_of, single}
use Rattle.ndn_tlv.specs.Options.{◌>>=◌}
use Rattle.ndn_tlv.specs.Reading.{elements_of, nni_at, on_result}
use Rattle.ndn_names.specs.declared.component_type.TheConstants.{GENERIC, PARAMETERS_SHA256_DIGEST}
use Rattle.ndn_names.specs.Reading.{name_of}
use Rattle.ndn_names.specs.View.{components}
use Rattle.ndn_packets.specs.Answers.{begins_with}
use Rattle.repo_core.specs.declared.verb.Verb.{Verb}
use Rattle.repo_core.specs.declared.command.Asked.{Asked}
use Rattle.ndn_packets.specs.declared.command_types.TheConstants.{REPO_COMMAND_PARAMETER}
use Rattle.ndn_packets.specs.declared.types.TheConstants.{CAN_BE_PREFIX, INTEREST_LIFETIME, NAME}
use Rattle.repo_core.specs.declared.types.TheConstants.{DEFAULT_LIFETIME}
use Rattle.repo_core.specs.Commands.{verb_named}

-- a command with its parameters; the command applies to the Data that answer an Interest with this
-- name and this CanBePrefix flag
pub record RepoCommand : Type 0 where
  pub verb : Verb
  pub name : List Field
  pub can_be_prefix : Bool
  -- the lifetime, in milliseconds, of the want (the pending insert) that an insert adds or renews
  pub lifetime : ℕ

abbrev pub plain : Asked → RepoCommand
plain a = record {
  verb = a.verb;
  name = components a.name;
  can_be_prefix = a.can_be_prefix;
  lifetime = a.lifetime;
}

-- ---- fields

abbrev pub can_be_read : Result Field TlvFault → Bool
can_be_read (Ok e) = true
can_be_read (Err fault) = false

-- the name in the Name field, or None if there is no Name field or the value of the Name field
-- cannot be decoded
abbrev pub name_in : Elements → Option (List Field)
name_in es = first_of NAME es >>= name_of

-- whether the CanBePrefix field is present; None if the field is present and its value is not empty
abbrev pub flag_of : Option (List ℕ) → Option Bool
flag_of None = Some false
flag_of (Some []) = Some true
flag_of (Some (b ∷ value)) = None

-- the InterestLifetime, or the default if the field is absent; None if the value of the field is
-- not a NonNegativeInteger
abbrev pub lifetime_of : Option (List ℕ) → Option ℕ
lifetime_of None = Some DEFAULT_LIFETIME
lifetime_of (Some value) = on_result (λ n. Some n) (λ _. None) (nni_at value)

-- the command with this verb and these parameters, or None if the parameters are not well formed
unfoldable pub command_of : Verb → Elements → Option RepoCommand
command_of verb es =
    if not (list_all can_be_read es) then None else (do
      name ← name_in es
      can_be_prefix ← flag_of (first_of CAN_BE_PREFIX es)
      lifetime ← lifetime_of (first_of INTEREST_LIFETIME es)
      Some (record {
        verb = verb;
        name = name;
        can_be_prefix = can_be_prefix;
        lifetime = lifetime;
      }))

-- ---- names

-- the value of the component if there is a component and its type is `kind`, otherwise None
abbrev pub value_of : ℕ → Option Field → Option (List ℕ)
value_of kind None = None
value_of kind (Some c) = if c.0 == kind then Some c.1 else None

-- the value of the component at index `length start + at`, where `start` is the prefix; None if
-- there is no such component or the component does not have the type `kind`
abbrev pub value_after : List Field → List Field → ℕ → ℕ → Option (List ℕ)
value_after start cs kind at = value_of kind (slice_get cs (length start + at))

-- the verb of a name that begins with the repository's prefix and a verb; None for every other name
unfoldable pub verb_at : List Field → List Field → Option Verb
verb_at start cs =
    if begins_with start cs then (value_after start cs GENERIC 0 >>= verb_named) else None

-- the command that the name encodes in a repository with the prefix `start`, or None if the name
-- does not encode a command
unfoldable pub repo_command_at : List Field → List Field → Option RepoCommand
repo_command_at start cs = do
  verb ← verb_at start cs
  value ← value_after start cs GENERIC 1
  digest ← value_after start cs PARAMETERS_SHA256_DIGEST 2
  parameters ← single REPO_COMMAND_PARAMETER (elements_of value)
  if length cs == length start + 3 then command_of verb (elements_of parameters) else None
