-- Which datagram answers a request that was sent, and the outcome of the request.
use Rattle.std.specs.Prelude.{◌≡◌, ℕ, List, [], ◌-◌, length, codes, bytes_eq, Option, None, Some, Result, Ok, Err, Bool, true, false, if◌then◌else◌, ◌==◌, ◌&&◌, ◌||◌, is_some, is_none, slice_get, option_and_then, unwrap_or}
use Rattle.std.specs.Result.{result_ok}
use Rattle.sha2.specs.Sha256.{sha256}
use Rattle.ndn_tlv.specs.Element.{Field}
use Rattle.ndn_tlv.specs.Reading.{elements_of, nni_at}
use Rattle.ndn_tlv.specs.Fields.{first_of, single}
use Rattle.ndn_tlv.specs.Writing.{octets}
use Rattle.ndn_names.specs.declared.component_type.TheConstants.{GENERIC}
use Rattle.key_files.specs.KeyFile.{NamedKey}
use Rattle.ndn_packets.specs.declared.command_types.TheConstants.{CONTROL_RESPONSE, STATUS_CODE, REPO_COMMAND_PARAMETER, REPO_COMMAND_RESPONSE, REPO_STATUS_CODE}
use Rattle.ndn_packets.specs.declared.fault.PacketFault.{PacketFault}
use Rattle.ndn_packets.specs.Packet.{PlainInterest, PlainData, PlainFrame, AnInterest, AData, ANack, Idle}
use Rattle.ndn_packets.specs.Answers.{answers}
use Rattle.ndn_packets.specs.FrameReading.{frame_at}
use Rattle.ndn_explain.specs.declared.tag_check.TagCheck.{TagCheck}
use Rattle.ndn_explain.specs.declared.tag_check.TagCheck.TheVariants.{Right}
use Rattle.ndn_explain.specs.TagCheck.{IsTagCheck}
use Rattle.ndn_explain.specs.Meaning.{parameters_in}
use Rattle.ndn_explain.specs.Explain.{explanation}
use Rattle.ndn_explain.specs.Reply.{written_content, written_data}
use Rattle.ndn_requests.specs.declared.fault.Silence.{Silence}
use Rattle.ndn_requests.specs.declared.fault.Silence.TheVariants.{Closed, Far, Late}
use Rattle.ndn_requests.specs.declared.fault.Failure.{Failure}
use Rattle.ndn_requests.specs.declared.fault.Failure.TheVariants.{Refused, NoStatus, Nack}

-- the outcome of a request: the request was done, or the reason why it was not done
abbrev pub Outcome : Type 0
Outcome = Result Unit Failure

-- ---- statuses

-- Reads a Content as a single element of the type `response`. The result is the number in the
-- element's first field of the type `kind`, or None if there is no such element, field or number.
abbrev pub code_in : ℕ → ℕ → List ℕ → Option ℕ
code_in response kind content =
    option_and_then (λ value. result_ok (nni_at value))
    (option_and_then (λ fields. first_of kind (elements_of fields))
    (single response (elements_of content)))

-- the number in a field of a repository's reply; no Content counts as an empty one
abbrev pub repository_number : ℕ → Result PlainFrame PacketFault → Option ℕ
repository_number kind (Ok (AData whole d)) =
    code_in REPO_COMMAND_RESPONSE kind (unwrap_or d.content [])
repository_number kind frame = None

abbrev pub is_word : List ℕ → Option Field → Bool
is_word word None = false
is_word word (Some c) = c.0 == GENERIC && bytes_eq c.1 word

-- whether a command is an insert; the verb of a command is the name component before the parameters
-- and the digest
abbrev pub is_insert : List Field → Bool
is_insert name = is_word (codes "insert") (slice_get name (length name - 3))

abbrev pub has_repository_fields : Option Field → Bool
has_repository_fields None = false
has_repository_fields (Some c) = is_some (single REPO_COMMAND_PARAMETER (elements_of c.1))

-- whether a command is for a repository; the type of its parameters decides, and the parameters are
-- the component before the digest
abbrev pub is_of_repository : List Field → Bool
is_of_repository name = has_repository_fields (slice_get name (length name - 2))

abbrev pub done_if : Bool → Outcome
done_if is_done = if is_done then Ok tt else Err Refused

-- the outcome of a command on routes, strategies or the cache, given the status in the reply; only
-- status 200 is a success
abbrev pub node_outcome : Option ℕ → Outcome
node_outcome None = Err NoStatus
node_outcome (Some code) = done_if (code == 200)

-- The outcome of a command to a repository, given the status in the reply. Status 200 is a success.
-- For an insert, status 100 is a success too: the repository waits for the Data.
abbrev pub repository_outcome : List Field → Option ℕ → Outcome
repository_outcome name None = Err NoStatus
repository_outcome name (Some code) = done_if (code == 200 || (code == 100 && is_insert name))

-- the outcome of a command with this name, given the Content of the reply
abbrev pub content_outcome : List Field → List ℕ → Outcome
content_outcome name content =
    if is_of_repository name
    then repository_outcome name (code_in REPO_COMMAND_RESPONSE REPO_STATUS_CODE content)
    else node_outcome (code_in CONTROL_RESPONSE STATUS_CODE content)

abbrev pub reply_outcome : List Field → Option (List ℕ) → Outcome
reply_outcome name None = Err NoStatus
reply_outcome name (Some content) = content_outcome name content

-- ---- which datagrams are answers

abbrev pub is_command : List Field → Bool
is_command name = is_some (parameters_in name)

abbrev pub is_right : Option TagCheck → Bool
is_right (Some Right) = true
is_right check = false

abbrev pub is_same_name : List Field → List Field → Bool
is_same_name a b = bytes_eq (octets a) (octets b)

-- The outcome of a request, given a Data that answers its Interest. If the Interest is not a
-- command, the Data is accepted. If the Interest is a command, the Data must also have the
-- Interest's name and a right signature; otherwise there is no outcome.
abbrev pub data_outcome : PlainInterest → PlainData → Option TagCheck → Option Outcome
data_outcome asked d check =
    if is_command asked.name
    then (if is_same_name asked.name d.name && is_right check
    then Some (reply_outcome asked.name d.content) else None)
    else Some (Ok tt)

-- whether two Interests have the same name and the same Nonce; a Nack answers a request if the
-- Nack's Interest and the request's Interest have the same name and the same Nonce
abbrev pub is_same : PlainInterest → PlainInterest → Bool
is_same asked i = is_same_name asked.name i.name && bytes_eq asked.nonce i.nonce

abbrev pub frame_outcome : PlainInterest → PlainFrame → Option TagCheck → Option Outcome
frame_outcome asked (AData whole d) check =
    if answers d.name (sha256 whole) asked.name asked.can_be_prefix
    then data_outcome asked d check else None
frame_outcome asked (ANack reason whole i) check =
    if is_same asked i then Some (Err Nack) else None
frame_outcome asked (AnInterest whole i) check = None
frame_outcome asked Idle check = None

-- The outcome of a command whose reply is too long to be read, given the reply's Content. Without a
-- Content, the octets are not exactly a reply that a node writes, and there is no outcome.
abbrev pub written_outcome : List Field → Option (List ℕ) → Option Outcome
written_outcome name None = None
written_outcome name (Some content) =
    if is_command name then Some (content_outcome name content) else None

-- the outcome of the request, given a received frame whose signature is checked with the keys of
-- the book; None if the frame does not answer the request
abbrev pub IsFrameJudged : PlainInterest → List NamedKey → PlainFrame → Option Outcome → Type 0
IsFrameJudged asked book frame outcome =
    (check : Option TagCheck) × IsTagCheck frame book check
    × (outcome ≡ frame_outcome asked frame check)

abbrev pub IsDatagramJudged : PlainInterest → List NamedKey → List ℕ
    → Result PlainFrame PacketFault → Option Outcome → Type 0
IsDatagramJudged asked book datagram (Ok frame) outcome = IsFrameJudged asked book frame outcome
IsDatagramJudged asked book datagram (Err why) outcome =
    outcome ≡ written_outcome asked.name (written_content asked.name datagram)

abbrev pub IsRequestJudged : Result PlainFrame PacketFault → List NamedKey → List ℕ
    → Option Outcome → Type 0
IsRequestJudged (Ok (AnInterest whole asked)) book datagram outcome =
    IsDatagramJudged asked book datagram (frame_at datagram) outcome
IsRequestJudged (Ok (AData whole d)) book datagram outcome = outcome ≡ None
IsRequestJudged (Ok (ANack reason whole i)) book datagram outcome = outcome ≡ None
IsRequestJudged (Ok Idle) book datagram outcome = outcome ≡ None
IsRequestJudged (Err why) book datagram outcome = outcome ≡ None

-- The outcome of a request, given a received datagram. The outcome is None if the request is not an
-- Interest or the datagram does not answer the Interest.
abbrev pub IsJudged : List ℕ → List NamedKey → List ℕ → Option Outcome → Type 0
IsJudged request book datagram outcome = IsRequestJudged (frame_at request) book datagram outcome

-- ---- the lines that are printed for an answer

abbrev pub written_lines : List Field → List ℕ → Option (List ℕ) → List ℕ
written_lines name datagram None = []
written_lines name datagram (Some content) =
    explanation (AData datagram (written_data name content datagram)) None

abbrev pub long_lines : Result PlainFrame PacketFault → List ℕ → List ℕ
long_lines (Ok (AnInterest whole asked)) datagram =
    written_lines asked.name datagram (written_content asked.name datagram)
long_lines (Ok (AData whole d)) datagram = []
long_lines (Ok (ANack reason whole i)) datagram = []
long_lines (Ok Idle) datagram = []
long_lines (Err why) datagram = []

-- The explanation of a datagram, if the datagram is a packet or is a reply of any length to the
-- request. The explanation has no line for a PIT token or for a signature check. There are no lines
-- for any other datagram.
abbrev pub explained_lines : List ℕ → List ℕ → Result PlainFrame PacketFault → List ℕ
explained_lines request datagram (Ok frame) = explanation frame None
explained_lines request datagram (Err why) = long_lines (frame_at request) datagram

-- ---- no answer

-- whether the packet is an Interest whose name is under `/localhost`
abbrev pub is_local : Result PlainFrame PacketFault → Bool
is_local (Ok (AnInterest whole asked)) = is_word (codes "localhost") (slice_get asked.name 0)
is_local (Ok (AData whole d)) = false
is_local (Ok (ANack reason whole i)) = false
is_local (Ok Idle) = false
is_local (Err why) = false

-- Why no answer came to a request. The request was sent from the port `from`. If `from` is absent,
-- the system chose the port. If `is_closed` is true, the reason is `Closed`: no program listens on
-- the destination port. Otherwise the reason is `Far` if `from` is absent and the request's name is
-- under `/localhost`, and `Late` in any other case.
abbrev pub silence_of : List ℕ → Option ℕ → Bool → Silence
silence_of request from is_closed =
    if is_closed then Closed else (
    if is_none from && is_local (frame_at request) then Far else Late)
