-- The parameters of a command, which follow the command's own name as one component (NFD
-- Management, "Control Command").
use Rattle.std.specs.Prelude.{◌≡◌, ◌≤◌, ℕ, List, [], ◌∷◌, ◌++◌, length, Bool, false, ◌==◌, ◌&&◌, Option, None, Some, codes, slice_get, bytes_eq, if◌then◌else◌, ⊤}
use Rattle.std.specs.Option.{option_map}
use Rattle.ndn_tlv.specs.Element.{Field, element}
use Rattle.ndn_names.specs.declared.component_type.TheConstants.{GENERIC}
use Rattle.ndn_names.specs.Name.{octets_of}
use Rattle.ndn_tlv.specs.Writing.{octets, number, optional, flag}
use Rattle.ndn_packets.specs.declared.fault.WriteFault.{WriteFault}
use Rattle.ndn_packets.specs.declared.fault.WriteFault.TheVariants.{BadName, TooLong, Memory}
use Rattle.ndn_packets.specs.declared.command_types.TheConstants.{CONTROL_PARAMETERS, REPO_COMMAND_PARAMETER, FACE_ID, COST, STRATEGY, FLAGS, EXPIRATION_PERIOD, ORIGIN, COUNT}
use Rattle.ndn_packets.specs.declared.types.TheConstants.{NAME, INTEREST_LIFETIME, CAN_BE_PREFIX}
use Rattle.ndn_requests.specs.declared.parameters.Parameters.{Parameters}

-- whether the component is a GenericNameComponent with these octets; false if there is no component
abbrev pub is_generic : Option Field → List ℕ → Bool
is_generic None value = false
is_generic (Some c) value = c.0 == GENERIC && bytes_eq c.1 value

abbrev pub is_generic_at : List Field → ℕ → List ℕ → Bool
is_generic_at name at value = is_generic (slice_get name at) value

-- whether the name is under `/localhost/nfd`
abbrev pub is_of_node : List Field → Bool
is_of_node name = is_generic_at name 0 (codes "localhost") && is_generic_at name 1 (codes "nfd")

abbrev pub name_field : List Field → Field
name_field name = (NAME, octets_of name)

-- the value of a Strategy field, which contains the strategy's name as an element
abbrev pub strategy_value : Option (List Field) → Option (List ℕ)
strategy_value strategy = option_map (λ name. element (name_field name)) strategy

abbrev pub fields_after_strategy : Parameters → List Field
fields_after_strategy p =
    number FLAGS p.flags
    ++ (number EXPIRATION_PERIOD p.expires
    ++ (number ORIGIN p.origin
    ++ number COUNT p.count))

-- the fields of a command for the node
abbrev pub node_fields : Parameters → List Field
node_fields p =
    name_field p.name
    ∷ (number FACE_ID p.face
    ++ (number COST p.cost
    ++ (optional STRATEGY (strategy_value p.strategy)
    ++ fields_after_strategy p)))

-- the fields of a command for a repository
abbrev pub repository_fields : Parameters → List Field
repository_fields p =
    name_field p.name
    ∷ (flag CAN_BE_PREFIX p.can_be_prefix
    ++ number INTEREST_LIFETIME p.lifetime)

-- the parameters of a command with this name, as an element: ControlParameters if the name is under
-- `/localhost/nfd`, otherwise RepoCommandParameter
abbrev pub parameters_element : List Field → Parameters → List ℕ
parameters_element name p =
    if is_of_node name
    then element (CONTROL_PARAMETERS, octets (node_fields p))
    else element (REPO_COMMAND_PARAMETER, octets (repository_fields p))

-- the name of the command's Interest, without the parameters digest
abbrev pub command_name : List Field → Parameters → List Field
command_name name p = name ++ (GENERIC, parameters_element name p) ∷ []

-- the fault is TooLong, and the name already has 64 components or more, so the parameters cannot
-- follow
abbrev pub IsTooLong : List Field → WriteFault → Type 0
IsTooLong name why = (why ≡ TooLong) × (64 ≤ length name)

abbrev pub IsNameRefusal : List Field → WriteFault → Type 0
IsNameRefusal name BadName = ⊥
IsNameRefusal name TooLong = 64 ≤ length name
IsNameRefusal name Memory = ⊤
