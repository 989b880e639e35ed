-- How an event and its answer change the records of pending Interests (NFD Developer's Guide,
-- "Pending Interest Table"). A cause (`Cause`) is one thing that may change records, such as an
-- Interest that arrives.
use Rattle.std.specs.Prelude.{ℕ, ◌+◌, ◌-◌, ◌^◌, List, [], ◌∷◌, map, min, Bool, true, false, Result, Ok, Err, ◌==◌, if◌then◌else◌}
use Rattle.std.specs.List.{list_any}
use Rattle.sha2.specs.Sha256.{sha256}
use Rattle.ndn_packets.specs.FrameReading.{frame_at}
use Rattle.ndn_packets.specs.Key.{PlainKey, key_of}
use Rattle.ndn_packets.specs.Reading.{is_nil}
use Rattle.ndn_packets.specs.Packet.{PlainInterest, PlainFrame, AnInterest, AData, ANack, Idle}
use Rattle.ndn_packets.specs.declared.fault.PacketFault.{PacketFault}
use Rattle.pit_fib.specs.Cause.{Cause, Arrives, SentTo, Satisfied, NackCame, Withdrawn, Removed, Closed, records_after}
use Rattle.pit_fib.specs.Records.{InRecord, Records}
use Rattle.forwarder.specs.Event.{PlainEvent, Send, Token, token_in}
use Rattle.forwarder.specs.Outcome.{Outcome, Nothing, InterestPassed, CommandAllowed, DataCame, NackPassed, FaceClosed, outcome_of}
use Rattle.forwarder.specs.Verdict.{Answer}

-- the moment `lifetime` milliseconds after `now`, at most the greatest u64
abbrev pub deadline : ℕ → ℕ → ℕ
deadline now lifetime = min (now + lifetime) (2 ^ 64 - 1)

-- the in-record of an Interest that came at `now` with this token; its deadline is `now` plus the
-- InterestLifetime, at most the greatest u64
abbrev pub in_record_for : ℕ → Token → List ℕ → PlainInterest → InRecord
in_record_for now token whole i = record {
  interest = whole;
  nonce = i.nonce;
  deadline = deadline now i.lifetime;
  token = token;
}

-- Whether some send goes to this face. If an Interest is passed, a send to the face that the
-- Interest came on is a Data or a Nack.
abbrev pub is_answered : ℕ → List Send → Bool
is_answered face sends = list_any (λ sent. sent.0 == face) sends

-- whether octets were read as a Nack
abbrev pub is_nack_frame : Result PlainFrame PacketFault → Bool
is_nack_frame (Err fault) = false
is_nack_frame (Ok (AnInterest whole i)) = false
is_nack_frame (Ok (AData whole d)) = false
is_nack_frame (Ok (ANack reason whole i)) = true
is_nack_frame (Ok Idle) = false

abbrev pub is_nack : List ℕ → Bool
is_nack octets = is_nack_frame (frame_at octets)

abbrev pub is_nacked : List Send → Bool
is_nacked sends = list_any (λ sent. is_nack sent.1) sends

-- for each of these faces, a cause `SentTo`: an Interest of this key with this Nonce was sent to
-- the face at the moment `now`
abbrev pub sent_causes : PlainKey → List ℕ → ℕ → List ℕ → List Cause
sent_causes key nonce now faces = map (λ face. SentTo key face nonce now) faces

-- The causes that a passed Interest and the sends of its answer give. If a Nack was sent, the
-- in-record of the Interest's face under the Interest's key is removed. If a Data was sent back,
-- there are no causes. If nothing was sent back, the Interest becomes pending, and is recorded as
-- sent to each face that it went to.
abbrev pub interest_causes : ℕ → ℕ → Token → List ℕ → PlainInterest → List Send → List Cause
interest_causes now face token whole i sends =
    let key = key_of i in
    if is_nacked sends then Withdrawn key face ∷ [] else (
    if is_answered face sends then [] else
    Arrives key face (in_record_for now token whole i)
    ∷ map (λ (sent : Send). SentTo key sent.0 i.nonce now) sends)

-- The causes that a passed Nack and the sends of its answer give. The reason of the Nack is
-- recorded. If there are sends, all records under the key of the Interest in the Nack are then
-- removed.
abbrev pub nack_causes : ℕ → ℕ → PlainInterest → List Send → List Cause
nack_causes face reason i sends =
    NackCame (key_of i) face i.nonce reason
    ∷ (if is_nil sends then [] else Removed (key_of i) ∷ [])

-- The causes that an event with this outcome and these sends gives, in order. An allowed Data
-- satisfies all pending Interests that it answers, whether the Data is sent or not.
abbrev pub causes_by : ℕ → Token → List Send → Outcome → List Cause
causes_by now token sends Nothing = []
causes_by now token sends (InterestPassed face whole i) =
    interest_causes now face token whole i sends
causes_by now token sends (CommandAllowed face i status) = []
causes_by now token sends (DataCame whole d) = Satisfied d.name (sha256 whole) ∷ []
causes_by now token sends (NackPassed face reason i) = nack_causes face reason i sends
causes_by now token sends (FaceClosed face) = Closed face ∷ []

-- the causes that an event and its answer give, in order; the causes apply at the moment `now`,
-- after the records that expire by `now` are removed
abbrev pub causes_of : ℕ → PlainEvent → Answer → List Cause
causes_of now event answer =
    causes_by now (token_in event) answer.sends (outcome_of event answer.verdict)

-- the records of a key after these causes, applied in order
abbrev pub after_causes : List Cause → PlainKey → Records → Records
after_causes [] key r = r
after_causes (cause ∷ causes) key r = after_causes causes key (records_after cause key r)

-- `before_earlier causes earlier` is `causes` in reverse order, followed by `earlier`; so the
-- latest cause comes first
abbrev pub before_earlier : List Cause → List Cause → List Cause
before_earlier [] earlier = earlier
before_earlier (cause ∷ causes) earlier = before_earlier causes (cause ∷ earlier)
