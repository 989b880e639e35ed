-- The effect of each datagram that is received after a request was sent.
use Rattle.std.specs.Prelude.{◌≡◌, ℕ, List, [], ◌++◌, nat_lt, Option, None, Some, Result, Ok, Err, Bool, true, false, unwrap_or, not, ◌&&◌, if◌then◌else◌, ⊤}
use Rattle.ndn_tlv.specs.Element.{Field}
use Rattle.ndn_names.specs.View.{components}
use Rattle.key_files.specs.KeyFile.{NamedKey}
use Rattle.ndn_packets.specs.declared.fault.PacketFault.{PacketFault}
use Rattle.ndn_packets.specs.declared.fault.WriteFault.{WriteFault}
use Rattle.ndn_packets.specs.declared.fault.WriteFault.TheVariants.{Memory}
use Rattle.ndn_packets.specs.declared.interest_writer.InterestWriter.{InterestWriter}
use Rattle.ndn_packets.specs.Packet.{PlainData, PlainFrame, AnInterest, AData, ANack, Idle}
use Rattle.ndn_packets.specs.FrameReading.{frame_at}
use Rattle.ndn_packets.specs.Reading.{is_nil}
use Rattle.ndn_packets.specs.Writing.{interest_text, interest_refusal}
use Rattle.ndn_explain.specs.declared.tag_check.TagCheck.{TagCheck}
use Rattle.ndn_explain.specs.declared.tag_check.TagCheck.TheVariants.{Wrong}
use Rattle.ndn_explain.specs.TagCheck.{IsTagCheck}
use Rattle.ndn_explain.specs.Show.{hex_line}
use Rattle.ndn_requests.specs.declared.names.NodeList.{NodeList}
use Rattle.ndn_requests.specs.declared.exchange.View.{View}
use Rattle.ndn_requests.specs.declared.exchange.View.TheVariants.{Hexadecimal, Content, Table}
use Rattle.ndn_requests.specs.declared.exchange.Exchange.{Exchange}
use Rattle.ndn_requests.specs.declared.exchange.Progress.{Progress}
use Rattle.ndn_requests.specs.declared.exchange.Progress.TheVariants.{Ignored, Next, Done, Forged, Unverified}
use Rattle.ndn_requests.specs.declared.exchange.Turn.{Turn}
use Rattle.ndn_requests.specs.declared.fault.Silence.{Silence}
use Rattle.ndn_requests.specs.declared.fault.Silence.TheVariants.{Changed}
use Rattle.ndn_requests.specs.Reply.{Outcome, IsJudged, explained_lines, silence_of}
use Rattle.ndn_requests.specs.Lists.{place_of, next_name, table}

-- ---- requests

-- the packet to write is an Interest with this name and Nonce, and with no other fields
pub record AsksPlainly (asked : List Field) (own : List ℕ) (w : InterestWriter) : Type 0 where
  pub name : components w.name ≡ asked
  pub can_be_prefix : w.can_be_prefix ≡ false
  pub must_be_fresh : w.must_be_fresh ≡ false
  pub nonce : w.nonce ≡ own
  pub lifetime : w.lifetime ≡ None
  pub hop_limit : w.hop_limit ≡ None
  pub parameters : w.parameters ≡ None
  pub sign : w.sign ≡ None

abbrev pub IsRequest : List Field → List ℕ → List ℕ → Type 0
IsRequest name nonce packet =
    (w : InterestWriter) × AsksPlainly name nonce w × (interest_refusal w ≡ None)
    × (packet ≡ interest_text w)

-- The reason why an Interest cannot be written. The Interest has this name and this Nonce, and no
-- other fields. The reason `Memory` is always allowed.
abbrev pub IsNoRequest : List Field → List ℕ → WriteFault → Type 0
IsNoRequest name nonce Memory = ⊤
IsNoRequest name nonce why =
    (w : InterestWriter) × AsksPlainly name nonce w × (interest_refusal w ≡ Some why)

-- ---- what is printed

abbrev pub content_in : Result PlainFrame PacketFault → List ℕ
content_in (Ok (AData whole d)) = unwrap_or d.content []
content_in (Ok (AnInterest whole i)) = []
content_in (Ok (ANack reason whole i)) = []
content_in (Ok Idle) = []
content_in (Err why) = []

abbrev pub printed : View → List ℕ → List ℕ → List ℕ
printed Content request datagram = content_in (frame_at datagram)
printed view request datagram = explained_lines request datagram (frame_at datagram)

-- the exchange is over, with this text to print and this outcome
abbrev pub IsDone : List ℕ → Outcome → Progress → Type 0
IsDone text outcome Ignored = ⊥
IsDone text outcome Next = ⊥
IsDone text outcome (Done said o) = (said.items ≡ text) × (o ≡ outcome)
IsDone text outcome (Forged name) = ⊥
IsDone text outcome (Unverified said name) = ⊥

-- ---- a Data with a wrong signature

abbrev pub is_wrong : Option TagCheck → Bool
is_wrong (Some Wrong) = true
is_wrong check = false

-- the name of a Data if its signature is wrong; None for any other frame
abbrev pub forged_name : PlainFrame → Option TagCheck → Option (List Field)
forged_name (AData whole d) check = if is_wrong check then Some d.name else None
forged_name (AnInterest whole i) check = None
forged_name (ANack reason whole i) check = None
forged_name Idle check = None

-- the name of the frame if it is a Data with a wrong signature, otherwise None; a signature is
-- checked if it is a DigestSha256, or an HMAC or an ECDSA signature with a key of the book
abbrev pub IsForgedFrame : List NamedKey → PlainFrame → Option (List Field) → Type 0
IsForgedFrame book frame name =
    (check : Option TagCheck) × IsTagCheck frame book check × (name ≡ forged_name frame check)

abbrev pub IsForged : List NamedKey → Result PlainFrame PacketFault → Option (List Field) → Type 0
IsForged book (Ok frame) name = IsForgedFrame book frame name
IsForged book (Err why) name = name ≡ None

abbrev pub IsForgedEnd : Bool → List ℕ → List Field → Progress → Type 0
IsForgedEnd unverified text name Ignored = ⊥
IsForgedEnd unverified text name Next = ⊥
IsForgedEnd unverified text name (Done said o) = ⊥
IsForgedEnd unverified text name (Forged own) = (unverified ≡ false) × (own ≡ name)
IsForgedEnd unverified text name (Unverified said own) =
    (unverified ≡ true) × (said.items ≡ text) × (own ≡ name)

-- The exchange is over. If the answer is a Data with a wrong signature, whose name is the next to
-- last argument, then its text is printed only if `unverified` is true. Otherwise the text is
-- printed, and the request has this outcome.
abbrev pub IsVerified : Bool → List ℕ → Outcome → Option (List Field) → Progress → Type 0
IsVerified unverified text outcome None progress = IsDone text outcome progress
IsVerified unverified text outcome (Some name) progress =
    IsForgedEnd unverified text name progress

-- ---- an exchange with one answer

abbrev pub IsProgress : Exchange → List NamedKey → List ℕ → Option Outcome → Progress → Type 0
IsProgress x book datagram None progress = progress ≡ Ignored
IsProgress x book datagram (Some outcome) progress =
    (forged : Option (List Field)) × IsForged book (frame_at datagram) forged
    × IsVerified x.unverified (printed x.view x.request.items datagram) outcome forged progress

-- ---- an exchange for the segments of a list

-- The effect of a Data with a segment. If there is a next segment (`true`), the Content of the Data
-- is appended to the contents, and the next segment is requested. If there is no next segment
-- (`false`), the exchange is over. The table of all contents is printed, and this Content is the
-- last of them.
abbrev pub IsStepped : Bool → Exchange → NodeList → ℕ → List ℕ → PlainData → Exchange → Progress
    → Type 0
IsStepped true old list segment nonce d new progress =
    (progress ≡ Next) × IsRequest (next_name d.name segment) nonce new.request.items
    × (new.contents.items ≡ old.contents.items ++ unwrap_or d.content [])
    × (new.to ≡ old.to) × (new.from ≡ old.from) × (new.view ≡ old.view) × (new.wait ≡ old.wait)
    × (new.unverified ≡ old.unverified)
IsStepped false old list segment nonce d new progress =
    IsDone (table list (old.contents.items ++ unwrap_or d.content [])) (Ok tt) progress

-- The effect of a Data, given the number of its segment and the number of the last segment. If the
-- numbers are given, the Data advances the exchange. If they are not given (None), the Data is
-- ignored.
abbrev pub IsPlaced : Option (ℕ × ℕ) → Exchange → NodeList → List ℕ → PlainData → Exchange
    → Progress → Type 0
IsPlaced None old list nonce d new progress = (new ≡ old) × (progress ≡ Ignored)
IsPlaced (Some place) old list nonce d new progress =
    IsStepped (nat_lt place.0 place.1) old list place.0 nonce d new progress

-- the effect of a datagram that answers the Interest for a segment; anything but a Data is ignored
abbrev pub IsListed : Exchange → NodeList → Turn → Result PlainFrame PacketFault → Exchange
    → Progress → Type 0
IsListed old list turn (Ok (AData whole d)) new progress =
    IsPlaced (place_of turn.is_first d.name whole) old list turn.nonce d new progress
IsListed old list turn (Ok (AnInterest whole i)) new progress = (new ≡ old) × (progress ≡ Ignored)
IsListed old list turn (Ok (ANack reason whole i)) new progress =
    (new ≡ old) × (progress ≡ Ignored)
IsListed old list turn (Ok Idle) new progress = (new ≡ old) × (progress ≡ Ignored)
IsListed old list turn (Err why) new progress = (new ≡ old) × (progress ≡ Ignored)

-- the Nonce of a request, and whether the request asks for the first segment of a list; None if the
-- request is not an Interest
abbrev pub turn_of : Result PlainFrame PacketFault → Option Turn
turn_of (Ok (AnInterest whole i)) = Some (record { is_first = i.can_be_prefix; nonce = i.nonce })
turn_of (Ok (AData whole d)) = None
turn_of (Ok (ANack reason whole i)) = None
turn_of (Ok Idle) = None
turn_of (Err why) = None

abbrev pub IsTurned : Option Turn → Exchange → NodeList → List ℕ → Exchange → Progress → Type 0
IsTurned None old list datagram new progress = (new ≡ old) × (progress ≡ Ignored)
IsTurned (Some turn) old list datagram new progress =
    IsListed old list turn (frame_at datagram) new progress

-- The effect of a datagram on a list exchange, given the outcome that the datagram has for the
-- request. Without an outcome, the datagram is ignored. If the outcome is a failure, the exchange
-- is over. If the outcome is a success, the datagram is handled as a possible segment of the list.
abbrev pub IsSegment : Option Outcome → Exchange → NodeList → List ℕ → Exchange → Progress → Type 0
IsSegment None old list datagram new progress = (new ≡ old) × (progress ≡ Ignored)
IsSegment (Some (Err failure)) old list datagram new progress =
    (new ≡ old)
    × IsDone (explained_lines old.request.items datagram (frame_at datagram)) (Err failure) progress
IsSegment (Some (Ok done)) old list datagram new progress =
    IsTurned (turn_of (frame_at old.request.items)) old list datagram new progress

-- ---- any exchange

abbrev pub IsTakenBy : View → Exchange → List NamedKey → List ℕ → Exchange → Progress → Type 0
IsTakenBy Hexadecimal old book datagram new progress =
    (new ≡ old) × IsDone (hex_line datagram) (Ok tt) progress
IsTakenBy (Table list) old book datagram new progress =
    (outcome : Option Outcome) × IsJudged old.request.items book datagram outcome
    × IsSegment outcome old list datagram new progress
IsTakenBy view old book datagram new progress =
    (new ≡ old) × (outcome : Option Outcome)
    × IsJudged old.request.items book datagram outcome
    × IsProgress old book datagram outcome progress

-- after this datagram, the exchange is `new`, and the effect of the datagram is `progress`
abbrev pub IsTaken : Exchange → List NamedKey → List ℕ → Exchange → Progress → Type 0
IsTaken old book datagram new progress = IsTakenBy old.view old book datagram new progress

-- `why` is `Memory`; or the frame is a Data, and `why` is the fault of writing the Interest for
-- another segment of the Data's list
abbrev pub IsNextRefusal : WriteFault → Result PlainFrame PacketFault → Type 0
IsNextRefusal Memory frame = ⊤
IsNextRefusal why (Ok (AData whole d)) =
    (segment : ℕ) × (nonce : List ℕ) × IsNoRequest (next_name d.name segment) nonce why
IsNextRefusal why frame = ⊥

-- ---- no answer

-- Whether the exchange has received a segment whose Content is not empty. If it has, `silence_in`
-- reports `Changed`, unless no program listens on the port.
abbrev pub has_begun : Exchange → Bool
has_begun x = not (is_nil x.contents.items)

abbrev pub silence_in : Exchange → Bool → Silence
silence_in x is_closed =
    if not is_closed && has_begun x then Changed else silence_of x.request.items x.from is_closed
