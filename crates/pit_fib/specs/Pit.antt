-- The pending Interest table: its results, its limits, and the calls that may be prepared (NFD
-- Developer's Guide, "Pending Interest Table", "Incoming Interest Pipeline", "Incoming Nack
-- Pipeline").
use Rattle.std.specs.Prelude.{◌≡◌, ◌⊎◌, ℕ, ◌≤◌, List, [], ◌∷◌, length, min, Bool, Option, None, Some, IsSome, IsTrue, false, option_and_then, ◌==◌, ◌&&◌, ◌||◌, not, refl, if◌then◌else◌}
use Rattle.std.specs.Coded.{Coded, code_by, coded×, coded_option, coded_ℕ}
use Rattle.std.specs.List.{list_any}
use Rattle.std.specs.FinMap as map
use Rattle.ndn_tlv.specs.Element.{Field}
use Rattle.ndn_packets.specs.Answers.{answers}
use Rattle.ndn_packets.specs.Key.{PlainKey, key_code}
use Rattle.pit_fib.specs.declared.nacked.Nacked.{Nacked}
use Rattle.pit_fib.specs.declared.nacked.Nacked.TheVariants.{NoPending, Waiting, All}
use Rattle.pit_fib.specs.FaceSet.{AtMost64}
use Rattle.pit_fib.specs.Tables.{ByFace}
use Rattle.name_trie.specs.ByName.{revise}
use Rattle.name_trie.specs.Flat.{total}
use Rattle.pit_fib.specs.Records.{InRecord, OutRecord, OutRecords, Records, Pending, records_at, records_code, same_nonce}
use Rattle.pit_fib.specs.Cause.{with_reason}

pub record PitState : Type 0 where
  pub pending : Pending
  -- The key of the prepared calls, and a number of octets if an `arrive` is prepared. The Interest
  -- and the token of a prepared `arrive` have together at most this number of octets. The `sent`
  -- calls after a prepared `arrive` are prepared too. If the number is None, only `sent` calls are
  -- prepared.
  pub prepared : Option (PlainKey × Option ℕ)

abbrev pub pit_code : Coded PitState
pit_code =
    code_by (Pending × Option (PlainKey × Option ℕ))
    (coded× (map.code key_code records_code)
    (coded_option (coded× key_code (coded_option coded_ℕ))))
    (λ s. (s.pending, s.prepared)) (λ p. record { pending = p.0; prepared = p.1 }) (λ _. refl)

-- ---- the faces with records in a table

-- the face has an in-record or an out-record under some key
abbrev pub HasRecord : Pending → ℕ → Type 0
HasRecord pending face =
    (key : PlainKey) × (IsSome (map.get (records_at pending key).in_records face)
    ⊎ IsSome (map.get (records_at pending key).out_records face))

-- the number of keys under which the face has an in-record
abbrev pub record_count : Pending → ℕ → ℕ
record_count pending face =
    total (λ r. if map.contains_key r.in_records face then 1 else 0) (map.entries pending)

-- at most 64 different faces have a record, or are equal to `face`
abbrev pub HasRoomFor : Pending → ℕ → Type 0
HasRoomFor pending face = AtMost64 (λ f. HasRecord pending f ⊎ (f ≡ face))

-- ---- PIT tokens

-- the octets of a PIT token, or no octets if there is no token
abbrev pub token_octets : Option (List ℕ) → List ℕ
token_octets None = []
token_octets (Some token) = token

-- the length of a PIT token in octets, or 0 if there is no token
abbrev pub token_len : Option (List ℕ) → ℕ
token_len token = length (token_octets token)

-- ---- the results of calls

-- the face has a pending Interest that a Data of this name and implicit digest answers
abbrev pub WaitsFor : Pending → List Field → List ℕ → ℕ → Type 0
WaitsFor pending name digest face =
    (key : PlainKey) × IsTrue (answers name digest key.name key.can_be_prefix)
    × IsSome (map.get (records_at pending key).in_records face)

-- whether the out-record of a face exists and has this Nonce
abbrev pub was_sent : Option OutRecord → List ℕ → Bool
was_sent None nonce = false
was_sent (Some out_record) nonce = same_nonce out_record.nonce nonce

abbrev pub asks_with : Option InRecord → List ℕ → Bool
asks_with None nonce = false
asks_with (Some in_record) nonce = same_nonce in_record.nonce nonce

-- An Interest loops if the in-record of another face, or an out-record, has the Interest's Nonce,
-- while the in-record of the Interest's own face has another Nonce or does not exist.
abbrev pub loops : Records → ℕ → List ℕ → Bool
loops r face nonce =
    not (asks_with (map.get r.in_records face) nonce)
    && (list_any (λ e. not (e.0 == face) && same_nonce e.1.nonce nonce) (map.entries r.in_records)
    || list_any (λ e. same_nonce e.1.nonce nonce) (map.entries r.out_records))

-- for each face with an out-record, the moment at which the Interest of this out-record was sent
abbrev pub moments : OutRecords → ByFace
moments out_records = revise (λ out_record. Some out_record.moment) out_records

-- the least number among `least` and the reasons in the out-records, or None if some out-record has
-- no reason
abbrev pub least_reason : ℕ → List (ℕ × OutRecord) → Option ℕ
least_reason least [] = Some least
least_reason least (e ∷ es) =
    option_and_then (λ reason. least_reason (min least reason) es) e.1.reason

abbrev pub all_nacked : Option ℕ → Nacked
all_nacked None = Waiting
all_nacked (Some reason) = All reason

-- each out-record has the reason of a Nack, and `least` is the least of these reasons
pub record IsLeastReason (out_records : OutRecords) (least : ℕ) : Type 0 where
  pub each : (face : ℕ) (out_record : OutRecord) → map.get out_records face ≡ Some out_record
      → (reason : ℕ) × (out_record.reason ≡ Some reason) × (least ≤ reason)
  pub one : (face : ℕ) × (out_record : OutRecord)
      × (map.get out_records face ≡ Some out_record) × (out_record.reason ≡ Some least)

-- The result of a Nack with this Nonce and reason from this face. The result is NoPending if the
-- face has no out-record with this Nonce, Waiting if some out-record has no reason even after this
-- Nack, and otherwise All with the least reason.
abbrev pub nacked_answer : Records → ℕ → List ℕ → ℕ → Nacked
nacked_answer r face nonce reason =
    if was_sent (map.get r.out_records face) nonce then all_nacked (least_reason reason
    (map.entries (with_reason face nonce reason r.out_records (map.get r.out_records face))))
    else NoPending
