-- Names of component types in URI text (NDN Packet Format 0.3, "NDN URI Scheme"; NDN Naming
-- Conventions, revision 3).
use Rattle.std.specs.Prelude.{ℕ, List, Option, Some, None, codes, bytes_eq, ◌==◌, if◌then◌else◌}
use Rattle.ndn_tlv.specs.Number.{shortest_nni}
use Rattle.ndn_names.specs.declared.component_type.TheConstants.{IMPLICIT_SHA256_DIGEST, PARAMETERS_SHA256_DIGEST, SEGMENT, BYTE_OFFSET, VERSION, TIMESTAMP, SEQUENCE_NUM}
use Rattle.ndn_tlv.specs.Reading.{on_result, nni_at}

-- the type name of a component type, or `None` if the type has no name
abbrev pub type_name_of : ℕ → Option (List ℕ)
type_name_of kind =
    if kind == IMPLICIT_SHA256_DIGEST then Some (codes "sha256digest") else (
    if kind == PARAMETERS_SHA256_DIGEST then Some (codes "params-sha256") else (
    if kind == SEGMENT then Some (codes "seg") else (
    if kind == BYTE_OFFSET then Some (codes "off") else (
    if kind == VERSION then Some (codes "v") else (
    if kind == TIMESTAMP then Some (codes "t") else (
    if kind == SEQUENCE_NUM then Some (codes "seq") else None))))))

-- the component type with this type name, or `None` if there is none
abbrev pub kind_of : List ℕ → Option ℕ
kind_of type_name =
    if bytes_eq type_name (codes "sha256digest") then Some IMPLICIT_SHA256_DIGEST else (
    if bytes_eq type_name (codes "params-sha256") then Some PARAMETERS_SHA256_DIGEST else (
    if bytes_eq type_name (codes "seg") then Some SEGMENT else (
    if bytes_eq type_name (codes "off") then Some BYTE_OFFSET else (
    if bytes_eq type_name (codes "v") then Some VERSION else (
    if bytes_eq type_name (codes "t") then Some TIMESTAMP else (
    if bytes_eq type_name (codes "seq") then Some SEQUENCE_NUM else None))))))

-- the number whose shortest NonNegativeInteger encoding is `value`, or `None` if there is none
abbrev pub shortest_number : List ℕ → Option ℕ
shortest_number value =
    on_result (λ n. if bytes_eq (shortest_nni n) value then Some n else None) (λ _. None)
    (nni_at value)
