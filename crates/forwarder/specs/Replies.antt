-- How a node may answer an event (NFD Developer's Guide, "Forwarding Pipelines"). The definition
-- `Replies` serves for a step and for a run. For a step, `Seen` is read off the node's tables. For
-- a run, `Seen` is read off the past events and answers.
use Rattle.std.specs.Prelude.{◌≡◌, ◌≢◌, ◌↔◌, ℕ, List, [], ◌∷◌, All, map as map_list, Bool, not, Option, None, Some, IsSome, IsTrue, Result, Ok, Err, nat_le, length, ◌==◌, ◌&&◌, if◌then◌else◌}
use Rattle.std.specs.FinMap as map
use Rattle.sha2.specs.Sha256.{sha256}
use Rattle.ndn_tlv.specs.Element.{Field}
use Rattle.ndn_packets.specs.Answers.{answers}
use Rattle.ndn_packets.specs.FrameReading.{frame_at, token_at}
use Rattle.ndn_packets.specs.Key.{PlainKey, key_of}
use Rattle.ndn_packets.specs.Packet.{PlainInterest, PlainData, PlainFrame, AnInterest, AData, ANack, Idle as AnIdle}
use Rattle.ndn_packets.specs.declared.fault.PacketFault.{PacketFault}
use Rattle.ndn_packets.specs.declared.types.TheConstants.{DUPLICATE, NO_ROUTE}
use Rattle.info_rules.specs.declared.decision.Decision.{Decision}
use Rattle.info_rules.specs.declared.decision.Decision.TheVariants as decided
use Rattle.info_rules.specs.declared.rule.Kind.TheVariants as kinds
use Rattle.pit_fib.specs.declared.nacked.Nacked.{Nacked}
use Rattle.pit_fib.specs.declared.nacked.Nacked.TheVariants as nacks
use Rattle.pit_fib.specs.FaceSet.{IsRising, has_face}
use Rattle.pit_fib.specs.Pit.{loops, moments, nacked_answer}
use Rattle.pit_fib.specs.Records.{InRecord, InRecords, Records, is_alive}
use Rattle.pit_fib.specs.Tokens.{IsTokenFor}
use Rattle.strategies.specs.declared.strategy.Choice.{Choice}
use Rattle.strategies.specs.declared.strategy.Choice.TheVariants as choices
use Rattle.repo_core.specs.Objects.{served}
use Rattle.repo_core.specs.Wants.{is_wanted}
use Rattle.pit_fib.specs.declared.face_set.TheConstants.{MAX_FACES}
use Rattle.forwarder.specs.Event.{PlainEvent, Packet, FaceUp, FaceDown, Tick, NewRules, Send, Token, nacked_back, sent_back, to_each}
use Rattle.forwarder.specs.OpenFaces.{is_open}
use Rattle.forwarder.specs.Verdict.{IfTrueElse, Answer, Dropped, NoFace, Malformed, Idle, Loop, PitFull, NoPending, BadFace, FaceOpen, FacesFull, Scope as OutOfScope, DataAllowed, Denied, NoRule, dropped, passed}
use Rattle.forwarder.specs.Policy.{Policy}
use Rattle.forwarder.specs.Request.{Request, Refused, ForList, ForTables, ForRepository, ForData, request_of, is_out_of_scope}
use Rattle.forwarder.specs.Deciding.{IsDecidedAs}
use Rattle.forwarder.specs.Commands.{command_answer}
use Rattle.forwarder.specs.Datasets.{list_answer}
use Rattle.forwarder.specs.NextHops.{choice_for, ask_from, sent_on}

-- what an answer may depend on, once time has advanced to the moment of the event
pub record Seen : Type 1 where
  pub policy : Policy
  -- the records of each key, and whether the PIT is full, that is, has records for at least 4,096
  -- keys
  pub records : PlainKey → Records
  pub is_full : Bool
  -- Whether the cache may give the Data with these octets for an Interest with this key. For None,
  -- whether it is possible that the cache gives no Data.
  pub MayGive : PlainKey → Option (List ℕ) → Type 0

-- ---- Interests for Data, pipeline by pipeline

-- Interest Loop: the Interest is dropped, and a Nack with the reason Duplicate is sent back
abbrev pub interest_loop : ℕ → Token → List ℕ → Answer
interest_loop face token whole = record {
  verdict = Dropped Loop;
  sends = nacked_back face token DUPLICATE whole ∷ [];
}

-- Content Store Hit: the cached Data is sent back
abbrev pub content_store_hit : ℕ → Token → List ℕ → Answer
content_store_hit face token octets = passed (sent_back face token octets ∷ [])

-- Outgoing Interest: if the Interest's key has no in-record and the PIT is full, the Interest is
-- dropped; otherwise the Interest is sent, without a token, to each of these faces
abbrev pub outgoing_interest : Seen → PlainKey → List ℕ → PlainInterest → List ℕ → Answer
outgoing_interest seen key whole i faces =
    if not (is_alive (seen.records key)) && seen.is_full then dropped PitFull
    else passed (to_each faces (sent_on whole i.hop_limit))

-- Interest Reject: a Nack with the reason NoRoute is sent back, since no next hop may get the
-- Interest
abbrev pub interest_reject : ℕ → Token → List ℕ → Answer
interest_reject face token whole = passed (nacked_back face token NO_ROUTE whole ∷ [])

-- the answer to an Interest according to the strategy's choice: Interest Reject if no next hop is
-- eligible, or else Outgoing Interest to the chosen faces
abbrev pub by_strategy : Seen → PlainKey → List ℕ → PlainInterest → ℕ → Token → Choice → Answer
by_strategy seen key whole i face token choices.NoRoute = interest_reject face token whole
by_strategy seen key whole i face token (choices.Send faces) =
    outgoing_interest seen key whole i faces

-- The answer to an Interest that the cache does not answer, given the object of the repository that
-- answers the Interest, if there is one. The object is sent back like a cached Data, even if the
-- Interest has MustBeFresh. If there is no object, the Interest is answered according to the
-- strategy's choice (`by_strategy`).
abbrev pub by_repository : Seen → ℕ → Token → List ℕ → PlainInterest → Option (List ℕ) → Answer
by_repository seen face token whole i (Some octets) = content_store_hit face token octets
by_repository seen face token whole i None =
    by_strategy seen (key_of i) whole i face token
    (choice_for seen.policy i.name (moments (seen.records (key_of i)).out_records)
    (ask_from seen.policy face i))

-- Content Store Miss: the repository answers with a stored object; if no stored object answers the
-- Interest, the Interest is answered according to the strategy's choice (`by_strategy`)
abbrev pub content_store_miss : Seen → ℕ → Token → List ℕ → PlainInterest → Answer
content_store_miss seen face token whole i =
    by_repository seen face token whole i
    (served i.name i.can_be_prefix seen.policy.held.objects)

abbrev pub by_content_store : Seen → ℕ → Token → List ℕ → PlainInterest → Option (List ℕ)
    → Answer
by_content_store seen face token whole i (Some octets) = content_store_hit face token octets
by_content_store seen face token whole i None = content_store_miss seen face token whole i

-- Incoming Interest: an Interest that loops gets a Nack; otherwise the cache or the repository
-- answers the Interest; if neither has an answer, the Interest is answered according to the
-- strategy's choice (`by_strategy`)
abbrev pub RepliesForData : Seen → ℕ → Token → List ℕ → PlainInterest → Answer → Type 0
RepliesForData seen face token whole i answer =
    IfTrueElse (loops (seen.records (key_of i)) face i.nonce)
    (answer ≡ interest_loop face token whole)
    ((given : Option (List ℕ)) × seen.MayGive (key_of i) given
    × (answer ≡ by_content_store seen face token whole i given))

-- ---- each kind of packet

abbrev pub RepliesToCommand : Seen → ℕ → Token → List ℕ → PlainInterest → Answer → Type 0
RepliesToCommand seen face token whole i answer =
    (decision : Decision) × IsDecidedAs seen.policy (AnInterest whole i) decision
    × (answer ≡ command_answer seen.policy face token i decision)

abbrev pub RepliesToRequest : Seen → ℕ → Token → List ℕ → PlainInterest → Answer → Request
    → Type 0
RepliesToRequest seen face token whole i answer (Refused reason) = answer ≡ dropped reason
RepliesToRequest seen face token whole i answer (ForList asked) =
    answer ≡ list_answer seen.policy face token asked
RepliesToRequest seen face token whole i answer ForTables =
    RepliesToCommand seen face token whole i answer
RepliesToRequest seen face token whole i answer ForRepository =
    RepliesToCommand seen face token whole i answer
RepliesToRequest seen face token whole i answer ForData =
    RepliesForData seen face token whole i answer

-- the face has an in-record under a key that a Data of this name and implicit digest answers
abbrev pub Waits : Seen → List Field → List ℕ → ℕ → Type 0
Waits seen name digest face =
    (key : PlainKey) × IsTrue (answers name digest key.name key.can_be_prefix)
    × IsSome (map.get (seen.records key).in_records face)

-- faces that wait for a Data, each with the token that is sent with the Data
abbrev pub Askers : Type 0
Askers = List (ℕ × Token)

abbrev pub faces_of : Askers → List ℕ
faces_of askers = map_list {A = ℕ × Token} {B = ℕ} (λ a. a.0) askers

-- the received octets of a Data, sent to each of these faces with the face's token
abbrev pub sent_to : Askers → List ℕ → List Send
sent_to askers whole =
    map_list {A = ℕ × Token} {B = Send} (λ a. sent_back a.0 a.1 whole) askers

-- The Data's octets are sent once to each face with a pending Interest that the Data answers,
-- except to `face`, from which the Data came. The sends are in rising order of the faces. Each face
-- gets the token of its Interest, if there is one. If the Data answers several Interests of a face,
-- the face gets the token of the Interest with the latest deadline (`IsTokenFor`).
abbrev pub IsSentToAskers : Seen → ℕ → List ℕ → PlainData → List Send → Type 0
IsSentToAskers seen face whole d sends =
    (askers : Askers) × IsRising (faces_of askers)
    × ((f : ℕ) → IsTrue (has_face f (faces_of askers))
    ↔ ((f ≢ face) × Waits seen d.name (sha256 whole) f))
    × All (λ a. IsTokenFor seen.records d.name (sha256 whole) a.0 a.1) askers
    × (sends ≡ sent_to askers whole)

-- An allowed Data is sent to the faces that wait for it. The verdict names the rule, and tells
-- whether a pending insert of the repository asks for the Data, which is then stored.
abbrev pub RepliesByDecision : Seen → ℕ → List ℕ → PlainData → Answer → Decision → Type 0
RepliesByDecision seen face whole d answer (decided.Allowed rule) =
    (answer.verdict ≡ DataAllowed rule.0 (is_wanted d.name (sha256 whole) seen.policy.held.wants))
    × IsSentToAskers seen face whole d answer.sends
RepliesByDecision seen face whole d answer (decided.Denied rule reason) =
    answer ≡ record { verdict = Denied kinds.Data rule.0 reason; sends = [] }
RepliesByDecision seen face whole d answer decided.NoRule =
    answer ≡ record { verdict = NoRule kinds.Data; sends = [] }

abbrev pub RepliesToData : Seen → ℕ → List ℕ → PlainData → Answer → Type 0
RepliesToData seen face whole d answer =
    IfTrueElse (is_out_of_scope seen.policy face d.name) (answer ≡ dropped OutOfScope)
    ((decision : Decision) × IsDecidedAs seen.policy (AData whole d) decision
    × RepliesByDecision seen face whole d answer decision)

-- a Nack for each in-record, in rising order of the faces; each Nack has this reason, the Interest
-- of its in-record and, if there is one, the token of its in-record
abbrev pub nacks_to : InRecords → ℕ → List Send
nacks_to in_records reason =
    map_list {A = ℕ × InRecord} {B = Send}
    (λ e. nacked_back e.0 e.1.token reason e.1.interest)
    (map.entries in_records)

abbrev pub nack_answer : InRecords → Nacked → Answer
nack_answer in_records nacks.NoPending = dropped NoPending
nack_answer in_records nacks.Waiting = passed []
nack_answer in_records (nacks.All reason) = passed (nacks_to in_records reason)

abbrev pub RepliesToNack : Seen → ℕ → ℕ → PlainInterest → Answer → Type 0
RepliesToNack seen face reason i answer =
    let r = seen.records (key_of i) in
    IfTrueElse (is_out_of_scope seen.policy face i.name) (answer ≡ dropped OutOfScope)
    (answer ≡ nack_answer r.in_records (nacked_answer r face i.nonce reason))

-- The answer to octets, given the result of reading them as a packet. Malformed octets and a link
-- packet without a packet are dropped. A token that comes with a Data or a Nack is ignored.
abbrev pub RepliesToPacket : Seen → ℕ → Token → Result PlainFrame PacketFault → Answer → Type 0
RepliesToPacket seen face token (Err fault) answer = answer ≡ dropped (Malformed fault)
RepliesToPacket seen face token (Ok (AnInterest whole i)) answer =
    RepliesToRequest seen face token whole i answer (request_of seen.policy face i)
RepliesToPacket seen face token (Ok (AData whole d)) answer =
    RepliesToData seen face whole d answer
RepliesToPacket seen face token (Ok (ANack reason whole i)) answer =
    RepliesToNack seen face reason i answer
RepliesToPacket seen face token (Ok AnIdle) answer = answer ≡ dropped Idle

-- ---- all events

-- the answer to a face that opens: the face is refused if its number is 0, if it is open already,
-- or if 64 faces are open
abbrev pub opening_answer : Policy → ℕ → Answer
opening_answer p face =
    if face == 0 then dropped BadFace else (
    if is_open face p.faces then dropped FaceOpen else (
    if nat_le MAX_FACES (length p.faces) then dropped FacesFull else
    passed []))

-- how an event may be answered, given what is seen once time has advanced to the event's moment
abbrev pub Replies : Seen → PlainEvent → Answer → Type 0
Replies seen (Packet face now octets) answer =
    IfTrueElse (is_open face seen.policy.faces)
    (RepliesToPacket seen face (token_at octets) (frame_at octets) answer)
    (answer ≡ dropped NoFace)
Replies seen (FaceUp face scope now) answer = answer ≡ opening_answer seen.policy face
Replies seen (FaceDown face now) answer =
    answer ≡ (if is_open face seen.policy.faces then passed [] else dropped NoFace)
Replies seen (Tick now) answer = answer ≡ passed []
Replies seen (NewRules rules keys now) answer = answer ≡ passed []
