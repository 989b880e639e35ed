-- Why Data are sent: each sent Data answers an Interest that is pending on the face that the Data
-- is sent to, or the Interest that the event brings.
use Rattle.std.specs.Prelude.{◌≡◌, ◌≢◌, ◌⊎◌, ℕ, List, [], ◌∷◌, Bool, true, false, None, Some, All, Result, Ok, Err, ⊤, ◌==◌, ◌||◌, if◌then◌else◌}
use Rattle.sha2.specs.Sha256.{sha256}
use Rattle.ndn_tlv.specs.Element.{Field}
use Rattle.ndn_tlv.specs.Reading.{◌>>=◌, element_at, elements_of}
use Rattle.ndn_tlv.specs.declared.fault.TlvFault.{TlvFault}
use Rattle.ndn_packets.specs.FrameReading.{frame_at, token_at}
use Rattle.ndn_packets.specs.Key.{key_of}
use Rattle.ndn_packets.specs.Packet.{PlainInterest, PlainData, PlainFrame, AnInterest, AData, ANack, Idle}
use Rattle.ndn_packets.specs.Writing.{AreOctets, reply_text}
use Rattle.ndn_packets.specs.declared.fault.PacketFault.{PacketFault}
use Rattle.ndn_packets.specs.declared.types.TheConstants.{DATA, FRAGMENT, LINK_PACKET, NACK}
use Rattle.pit_fib.specs.Tokens.{IsTokenFor}
use Rattle.info_rules.specs.declared.rules.RuleNo.{RuleNo}
use Rattle.info_rules.specs.declared.decision.Decision.{Decision}
use Rattle.info_rules.specs.declared.decision.Decision.TheVariants.{Allowed}
use Rattle.repo_core.specs.Objects.{served}
use Rattle.forwarder.specs.Event.{PlainEvent, Packet, FaceUp, FaceDown, Tick, NewRules, Send, Token, sent_back}
use Rattle.forwarder.specs.Deciding.{IsDecidedAs}
use Rattle.forwarder.specs.Commands.{reply_content}
use Rattle.forwarder.specs.Datasets.{list_answer}
use Rattle.forwarder.specs.Effects.{decided_packet}
use Rattle.forwarder.specs.Policy.{Policy}
use Rattle.forwarder.specs.Request.{ForList, ListAsked, is_command, request_of}
use Rattle.forwarder.specs.Replies.{Seen, Waits}
use Rattle.forwarder.specs.Verdict.{Answer, passed}

-- The event brings an allowed Data on the face `face`. The received octets of the Data are sent to
-- another face, which has a pending Interest that the Data answers. The octets are sent with the
-- token of that Interest, if there is one. If the Data answers several pending Interests of that
-- face, the token is that of the Interest with the latest deadline (`IsTokenFor`).
pub record IsForwardedData (seen : Seen) (event : PlainEvent) (sent : Send) : Type 0 where
  pub face : ℕ
  pub now : ℕ
  pub octets : List ℕ
  pub whole : List ℕ
  pub packet : PlainData
  pub rule : RuleNo
  pub brings : event ≡ Packet face now octets
  pub read : frame_at octets ≡ Ok (AData whole packet)
  pub decided : decided_packet seen.policy event ≡ Some (AData whole packet)
  pub allowed : IsDecidedAs seen.policy (AData whole packet) (Allowed rule)
  pub other : sent.0 ≢ face
  pub waits : Waits seen packet.name (sha256 whole) sent.0
  pub token : Token
  pub is_token : IsTokenFor seen.records packet.name (sha256 whole) sent.0 token
  pub received : sent ≡ sent_back sent.0 token whole

-- the Interest `i` is a command, and `octets` are the reply to this command, given a decision on
-- the command (`IsDecidedAs`)
abbrev pub IsReplyToCommand : Policy → ℕ → List ℕ → PlainInterest → List ℕ → Type 0
IsReplyToCommand p face whole i octets =
    (is_command (request_of p face i) ≡ true)
    × ((decision : Decision) × IsDecidedAs p (AnInterest whole i) decision
    × (octets ≡ reply_text i.name (reply_content p face i decision)))

-- the Interest `i` is answered as a request for a segment of a list, the segment exists, and
-- `octets` are this segment under the policy `p`
abbrev pub IsSegmentAskedFor : Policy → ℕ → PlainInterest → List ℕ → Type 0
IsSegmentAskedFor p face i octets =
    (asked : ListAsked) × (request_of p face i ≡ ForList asked)
    × (list_answer p face None asked ≡ passed ((face, octets) ∷ []))

-- `octets` are a Data that answers the Interest `i` at once: from the cache, from the repository,
-- or made by the node itself
abbrev pub IsAtHand : Seen → ℕ → List ℕ → PlainInterest → List ℕ → Type 0
IsAtHand seen face whole i octets =
    seen.MayGive (key_of i) (Some octets)
    ⊎ ((served i.name i.can_be_prefix seen.policy.held.objects ≡ Some octets)
    ⊎ (IsReplyToCommand seen.policy face whole i octets
    ⊎ IsSegmentAskedFor seen.policy face i octets))

-- the event brings an Interest, and a Data that answers the Interest at once is sent back to the
-- Interest's face, with the Interest's token, if there is one
pub record IsReply (seen : Seen) (event : PlainEvent) (sent : Send) : Type 0 where
  pub now : ℕ
  pub octets : List ℕ
  pub whole : List ℕ
  pub interest : PlainInterest
  pub brings : event ≡ Packet sent.0 now octets
  pub read : frame_at octets ≡ Ok (AnInterest whole interest)
  pub packet : List ℕ
  pub at_hand : IsAtHand seen sent.0 whole interest packet
  pub answered : sent ≡ sent_back sent.0 (token_at octets) packet

-- whether octets were read as a Data
abbrev pub is_data_frame : Result PlainFrame PacketFault → Bool
is_data_frame (Err fault) = false
is_data_frame (Ok (AnInterest whole i)) = false
is_data_frame (Ok (AData whole d)) = true
is_data_frame (Ok (ANack reason whole i)) = false
is_data_frame (Ok Idle) = false

-- the first element of the octets, whatever comes after it, or a fault if it cannot be read
abbrev pub first_element : List ℕ → Result Field TlvFault
first_element text = element_at text >>= λ first. Ok first.0

-- whether an element was read without a fault, and its type is that of a Data
abbrev pub is_data_element : Result Field TlvFault → Bool
is_data_element (Err fault) = false
is_data_element (Ok e) = e.0 == DATA

-- Whether a link packet with these elements carries a Data. The link packet carries a Data if the
-- first Fragment begins with an element of the type of a Data, and neither a Nack nor a malformed
-- element comes before this Fragment.
abbrev pub carries_data : List (Result Field TlvFault) → Bool
carries_data [] = false
carries_data (Err fault ∷ elements) = false
carries_data (Ok e ∷ elements) =
    if e.0 == FRAGMENT then is_data_element (first_element e.1) else (
    if e.0 == NACK then false else
    carries_data elements)

abbrev pub holds_data : Result Field TlvFault → Bool
holds_data (Err fault) = false
holds_data (Ok e) = if e.0 == LINK_PACKET then carries_data (elements_of e.1) else (e.0 == DATA)

-- True if octets that go over a link are a Data or a link packet that carries a Data, and false
-- otherwise. A Data that is too long to be read, such as a long reply of the node, also counts, and
-- so does a Data that other octets follow.
abbrev pub is_data : List ℕ → Bool
is_data octets = is_data_frame (frame_at octets) || holds_data (first_element octets)

-- the send `sent` forwards the Data that the event brings, or is a reply to the Interest that the
-- event brings, or its octets are neither a Data nor a link packet that carries a Data
abbrev pub IsExplained : Seen → PlainEvent → Send → Type 0
IsExplained seen event sent =
    IsForwardedData seen event sent ⊎ (IsReply seen event sent ⊎ (is_data sent.1 ≡ false))

abbrev pub EachIsExplained : Seen → PlainEvent → Answer → Type 0
EachIsExplained seen event answer = All (IsExplained seen event) answer.sends

-- if the event brings a packet, the packet's octets are numbers below 256
abbrev pub BringsOctets : PlainEvent → Type 0
BringsOctets (Packet face now octets) = AreOctets octets
BringsOctets (FaceUp face scope now) = ⊤
BringsOctets (FaceDown face now) = ⊤
BringsOctets (Tick now) = ⊤
BringsOctets (NewRules rules keys now) = ⊤
