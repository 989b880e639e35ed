-- Reading a command's name (NFD Management, "Control Command"): `/localhost/nfd`, the module, the
-- verb, the parameters, and optionally a digest component.
use Rattle.std.specs.Prelude.{ℕ, ◌-◌, List, [], ◌∷◌, length, take, Bool, true, false, not, is_some, nat_lt, ◌==◌, ◌&&◌, Option, None, Some, Result, Ok, Err, unwrap_or, slice_get, codes, bytes_eq, if◌then◌else◌}
use Rattle.std.specs.Option.{option_map}
use Rattle.std.specs.List.{list_all}
use Rattle.ndn_tlv.specs.declared.fault.TlvFault.{TlvFault}
use Rattle.ndn_tlv.specs.Element.{Field}
use Rattle.ndn_tlv.specs.Fields.{Elements, first_of, single}
use Rattle.ndn_tlv.specs.Options.{◌>>=◌}
use Rattle.ndn_tlv.specs.Reading.{elements_of, nni_at, on_result}
use Rattle.ndn_names.specs.declared.component_type.TheConstants.{GENERIC, PARAMETERS_SHA256_DIGEST}
use Rattle.ndn_names.specs.Reading.{name_of}
use Rattle.ndn_names.specs.View.{components}
use Rattle.mgmt_core.specs.declared.action.Action.{Action}
use Rattle.mgmt_core.specs.declared.command.Command.{Command}
use Rattle.ndn_packets.specs.declared.command_types.TheConstants.{COST, COUNT, EXPIRATION_PERIOD, FACE_ID, FLAGS, CONTROL_PARAMETERS, ORIGIN, STRATEGY}
use Rattle.ndn_packets.specs.declared.types.TheConstants.{NAME}
use Rattle.mgmt_core.specs.declared.types.TheConstants.{BAD_PARAMETERS, UNKNOWN_COMMAND}
use Rattle.mgmt_core.specs.Commands.{Row, row_of, action_named, has, parameter_fields, takes}

-- a command with its parameters; face 0 stands for the face that the command came from
pub record PlainCommand : Type 0 where
  pub action : Action
  pub name : List Field
  pub face : ℕ
  pub origin : ℕ
  pub cost : ℕ
  pub flags : ℕ
  -- the lifetime of the route in milliseconds
  pub expires : Option ℕ
  pub strategy : Option (List Field)
  pub count : Option ℕ

-- a command as plain data
abbrev pub asked : Command → PlainCommand
asked c = record {
  action = c.action;
  name = components c.name;
  face = c.face;
  origin = c.origin;
  cost = c.cost;
  flags = c.flags;
  expires = c.expires;
  strategy = option_map components c.strategy;
  count = c.count;
}

-- ---- fields

-- whether the element is allowed among the parameters of a command: false if the element cannot be
-- decoded, or if its type is in `parameter_fields` and the command does not take a field of this
-- type; otherwise true
abbrev pub fits : Row → Result Field TlvFault → Bool
fits row (Ok e) = not (has e.0 parameter_fields && not (takes e.0 row))
fits row (Err fault) = false

abbrev pub number_of : List ℕ → Option ℕ
number_of value = on_result (λ n. Some n) (λ _. None) (nni_at value)

-- the value of an optional field: Some None if the field is absent, and None if the field is
-- present but cannot be decoded
abbrev pub optional_of : {X : Type 0} → (List ℕ → Option X) → Option (List ℕ) → Option (Option X)
optional_of form None = Some None
optional_of form (Some value) = option_map (λ x. Some x) (form value)

abbrev pub number_in : ℕ → Elements → Option (Option ℕ)
number_in kind es = optional_of number_of (first_of kind es)

abbrev pub name_in : Elements → Option (List Field)
name_in es = first_of NAME es >>= name_of

-- the name in the Strategy field: Some None if the field is absent, and None if the field does not
-- contain exactly one valid Name element
abbrev pub strategy_in : Elements → Option (Option (List Field))
strategy_in es =
    optional_of (λ value. single NAME (elements_of value) >>= name_of) (first_of STRATEGY es)

-- ---- commands

-- the default flags of a route
abbrev pub child_inherit : ℕ
child_inherit = 1

abbrev pub is_root : List Field → Bool
is_root [] = true
is_root (c ∷ cs) = false

-- the command with these parameters, or None if the parameters are not valid for the action
unfoldable pub command_of : Action → Elements → Option PlainCommand
command_of action es =
    let row = row_of action in
    if not (list_all (fits row) es && list_all (λ kind. is_some (first_of kind es)) row.needs)
    then None else (do
      name ← name_in es
      face ← number_in FACE_ID es
      origin ← number_in ORIGIN es
      cost ← number_in COST es
      flags ← number_in FLAGS es
      expires ← number_in EXPIRATION_PERIOD es
      strategy ← strategy_in es
      count ← number_in COUNT es
      if is_root name && not row.takes_root then None else Some (record {
        action = action;
        name = name;
        face = unwrap_or face 0;
        origin = unwrap_or origin 0;
        cost = unwrap_or cost 0;
        flags = unwrap_or flags child_inherit;
        expires = expires;
        strategy = strategy;
        count = count;
      }))

-- whether there is a component, and its type is `kind`
abbrev pub last_is : ℕ → Option Field → Bool
last_is kind None = false
last_is kind (Some c) = c.0 == kind

abbrev pub without_last : ℕ → List Field → List Field
without_last kind cs =
    let front = length cs - 1 in
    if last_is kind (slice_get cs front) then take front cs else cs

-- the value of the component if it is a GenericNameComponent, otherwise None
abbrev pub generic_value : Option Field → Option (List ℕ)
generic_value None = None
generic_value (Some c) = if c.0 == GENERIC then Some c.1 else None

abbrev pub generic_at : List Field → ℕ → Option (List ℕ)
generic_at cs at = generic_value (slice_get cs at)

-- the action of a name that begins with `/localhost/nfd/MODULE/VERB`, or None if there is no such
-- action
unfoldable pub action_at : List Field → Option Action
action_at cs = do
  localhost ← generic_at cs 0
  nfd ← generic_at cs 1
  part ← generic_at cs 2
  verb ← generic_at cs 3
  if bytes_eq localhost (codes "localhost") && bytes_eq nfd (codes "nfd")
      then action_named part verb else None

-- the command with this action and the parameters in the fifth component; None unless the fifth
-- component is a GenericNameComponent that contains exactly one ControlParameters element with
-- parameters that are valid for the action
unfoldable pub parameters_at : Action → List Field → Option PlainCommand
parameters_at action cs = do
  value ← generic_at cs 4
  parameters ← single CONTROL_PARAMETERS (elements_of value)
  command_of action (elements_of parameters)

-- Ok with the value, or Err with this status if there is no value
abbrev pub or_status : {X : Type 0} → ℕ → Option X → Result X ℕ
or_status status None = Err status
or_status status (Some x) = Ok x

abbrev pub on_option : {X Y : Type 0} → Y → (X → Y) → Option X → Y
on_option none some None = none
on_option none some (Some x) = some x

unfoldable pub command_before_digest : List Field → Result PlainCommand ℕ
command_before_digest cs =
    if nat_lt (length cs) 4 then Err BAD_PARAMETERS else
    on_option (Err UNKNOWN_COMMAND) (λ action.
    if length cs == 5 then or_status BAD_PARAMETERS (parameters_at action cs) else
    Err BAD_PARAMETERS) (action_at cs)

abbrev pub command_at : List Field → Result PlainCommand ℕ
command_at cs = command_before_digest (without_last PARAMETERS_SHA256_DIGEST cs)
