-- What a command asks for and what a reply answers, as lines of text (NFD Management, "Control
-- Command"; the elements for a repository are a choice of this implementation).
use Rattle.std.specs.Prelude.{ℕ, ◌-◌, ◌/◌, ◌%◌, List, [], ◌++◌, length, take, Bool, true, false, is_some, nat_le, ◌==◌, ◌&&◌, codes, Option, None, Some, slice_get, if◌then◌else◌}
use Rattle.std.specs.Option.{option_map}
use Rattle.std.specs.List.{list_all}
use Rattle.std.specs.Fmt.{decimal}
use Rattle.ndn_tlv.specs.Element.{Field}
use Rattle.ndn_tlv.specs.Reading.{elements_of, nni_at, on_result}
use Rattle.ndn_names.specs.declared.component_type.TheConstants.{GENERIC, PARAMETERS_SHA256_DIGEST}
use Rattle.ndn_names.specs.Reading.{name_at}
use Rattle.ndn_names.specs.Uri.{uri_of}
use Rattle.ndn_packets.specs.declared.command_types.TheConstants.{CONTROL_PARAMETERS, REPO_COMMAND_PARAMETER, FACE_ID, COST, STRATEGY, FLAGS, EXPIRATION_PERIOD, ORIGIN, COUNT}
use Rattle.ndn_packets.specs.declared.types.TheConstants.{NAME, INTEREST_LIFETIME, CAN_BE_PREFIX}
use Rattle.ndn_explain.specs.declared.meaning.Form.{Form}
use Rattle.ndn_explain.specs.declared.meaning.Form.TheVariants.{Number, Name, Strategy, Flags, Period}
use Rattle.ndn_packets.specs.declared.command_types.TheConstants.{CONTROL_RESPONSE, STATUS_CODE, STATUS_TEXT, REPO_COMMAND_RESPONSE, REPO_STATUS_CODE}
use Rattle.ndn_tlv.specs.Fields.{Elements, first_of, single}
use Rattle.ndn_explain.specs.Show.{named_line, flag_line, optional_line, hex_or_dash}

-- ---- fields

-- the text for a malformed value
abbrev pub bad_text : List ℕ → List ℕ
bad_text value = codes "bad " ++ hex_or_dash value

abbrev pub number_text : List ℕ → List ℕ
number_text value = on_result decimal (λ _. bad_text value) (nni_at value)

abbrev pub name_text : List ℕ → List ℕ
name_text value = on_result uri_of (λ _. bad_text value) (name_at value)

-- the URI of the Name in a Strategy field, or the text for a malformed value if the field has no
-- Name or the Name is malformed
abbrev pub held_name : List ℕ → Option (List ℕ) → List ℕ
held_name value None = bad_text value
held_name value (Some name) = name_text name

abbrev pub strategy_text : List ℕ → List ℕ
strategy_text value = held_name value (single NAME (elements_of value))

-- the words for the flags of a route, given whether child-inherit is set and whether capture is set
-- (NFD Management, "RIB Management")
abbrev pub words_of_flags : Bool → Bool → List ℕ
words_of_flags false false = codes "none"
words_of_flags true false = codes "child-inherit"
words_of_flags false true = codes "capture"
words_of_flags true true = codes "child-inherit capture"

-- the words for the flags of a route: the bit of value 1 is child-inherit, the bit of value 2 is
-- capture, and other bits have no effect
abbrev pub flags_word : ℕ → List ℕ
flags_word flags = words_of_flags (flags % 2 == 1) (flags / 2 % 2 == 1)

abbrev pub flags_text : List ℕ → List ℕ
flags_text value = on_result flags_word (λ _. bad_text value) (nni_at value)

-- the text of a period in milliseconds
abbrev pub period_word : ℕ → List ℕ
period_word period = codes "in " ++ (decimal period ++ codes " ms")

abbrev pub period_text : List ℕ → List ℕ
period_text value = on_result period_word (λ _. bad_text value) (nni_at value)

abbrev pub form_text : Form → List ℕ → List ℕ
form_text Number value = number_text value
form_text Name value = name_text value
form_text Strategy value = strategy_text value
form_text Flags value = flags_text value
form_text Period value = period_text value

-- the line of a field whose value has this form, or no line if the field is absent
abbrev pub field_line : List ℕ → Form → ℕ → Elements → List ℕ
field_line label form kind es = optional_line label (option_map (form_text form) (first_of kind es))

abbrev pub hop_lines : Elements → List ℕ
hop_lines es =
    field_line (codes "face") Number FACE_ID es
    ++ field_line (codes "cost") Number COST es

-- the lines of the fields that only a registered route has: origin, flags and expiration period
abbrev pub route_lines : Elements → List ℕ
route_lines es =
    field_line (codes "origin") Number ORIGIN es
    ++ (field_line (codes "flags") Flags FLAGS es
    ++ field_line (codes "expires") Period EXPIRATION_PERIOD es)

abbrev pub wanted_lines : Elements → List ℕ
wanted_lines es =
    flag_line (codes "can-be-prefix") (is_some (first_of CAN_BE_PREFIX es))
    ++ field_line (codes "lifetime") Number INTEREST_LIFETIME es

abbrev pub field_lines : Elements → List ℕ
field_lines es =
    field_line (codes "name") Name NAME es
    ++ (hop_lines es
    ++ (route_lines es
    ++ (field_line (codes "strategy") Strategy STRATEGY es
    ++ (field_line (codes "count") Number COUNT es
    ++ wanted_lines es))))

-- ---- commands

abbrev pub or_else : {X : Type 0} → Option X → Option X → Option X
or_else None other = other
or_else (Some x) other = Some x

-- the fields of the element in `value`, if `value` is a single ControlParameters or
-- RepoCommandParameter element
abbrev pub parameters_of : List ℕ → Option (List ℕ)
parameters_of value =
    or_else (single CONTROL_PARAMETERS (elements_of value))
    (single REPO_COMMAND_PARAMETER (elements_of value))

abbrev pub has_kind : ℕ → Option Field → Bool
has_kind kind None = false
has_kind kind (Some c) = c.0 == kind

abbrev pub generic_parameters : Option Field → Option (List ℕ)
generic_parameters None = None
generic_parameters (Some c) = if c.0 == GENERIC then parameters_of c.1 else None

-- the fields in a command's parameters; the parameters are the name component before the parameters
-- digest; None if the name does not end with parameters and a digest
abbrev pub parameters_in : List Field → Option (List ℕ)
parameters_in name =
    if has_kind PARAMETERS_SHA256_DIGEST (slice_get name (length name - 1))
    then generic_parameters (slice_get name (length name - 2)) else None

abbrev pub asked_lines : List Field → Option (List ℕ) → List ℕ
asked_lines name None = []
asked_lines name (Some fields) =
    named_line (codes "command") (uri_of (take (length name - 2) name))
    ++ field_lines (elements_of fields)

-- the lines of an Interest with this name, if the name has the parameters of a command; otherwise
-- no lines
abbrev pub command_lines : List Field → List ℕ
command_lines name = asked_lines name (parameters_in name)

-- ---- replies

-- whether the octet is printable, that is, from 32 to 126; a StatusText with any other octet is
-- shown in hexadecimal
abbrev pub is_printable : ℕ → Bool
is_printable octet = nat_le 32 octet && nat_le octet 126

abbrev pub status_text : Option (List ℕ) → List ℕ
status_text None = codes "-"
status_text (Some text) = if list_all is_printable text then text else hex_or_dash text

-- the line with the code and the text of a status; no line if there is no code
abbrev pub status_words : Option (List ℕ) → Option (List ℕ) → List ℕ
status_words None text = []
status_words (Some code) text =
    named_line (codes "status") (number_text code ++ (codes " " ++ status_text text))

abbrev pub status_line : ℕ → Elements → List ℕ
status_line kind es = status_words (first_of kind es) (first_of STATUS_TEXT es)

abbrev pub body_lines : Option (List ℕ) → List ℕ
body_lines None = []
body_lines (Some fields) = field_lines (elements_of fields)

abbrev pub node_reply_lines : Elements → List ℕ
node_reply_lines es = status_line STATUS_CODE es ++ body_lines (first_of CONTROL_PARAMETERS es)

abbrev pub repository_reply_lines : Elements → List ℕ
repository_reply_lines es = status_line REPO_STATUS_CODE es ++ field_lines es

-- The lines of a response. The first argument has the fields of the node's response, and the second
-- argument has the fields of a repository's response. The repository's response counts only if
-- there is no response of the node. There are no lines if there is no response.
abbrev pub or_repository : Option (List ℕ) → Option (List ℕ) → List ℕ
or_repository (Some fields) other = node_reply_lines (elements_of fields)
or_repository None (Some fields) = repository_reply_lines (elements_of fields)
or_repository None None = []

abbrev pub reply_lines : List ℕ → List ℕ
reply_lines content =
    or_repository (single CONTROL_RESPONSE (elements_of content))
    (single REPO_COMMAND_RESPONSE (elements_of content))
