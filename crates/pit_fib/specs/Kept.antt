-- The entry of a key, and how each call of the table changes the entry, for the contracts of
-- private functions.
use Rattle.std.specs.Prelude.{ℕ, ◌-◌, ◌==◌, Bool, true, false, List, [], ◌∷◌, length, take, drop, Option, None, Some, nat_lt, min, unwrap_or, refl, ◌||◌, if◌then◌else◌}
use Rattle.std.specs.Coded.{Coded, code_by, coded×, coded_bool}
use Rattle.std.specs.Option.{option_map, option_and_then}
use Rattle.std.specs.FinMap as map
use Rattle.ndn_packets.specs.Key.{PlainKey, key_cmp}
use Rattle.name_trie.specs.ByName.{ByName, revise, with_entry}
use Rattle.name_trie.specs.Flat.{flatten}
use Rattle.name_trie.specs.Least.{nonempty, least}
use Rattle.pit_fib.specs.declared.face_set.TheConstants.{MAX_FACES}
use Rattle.pit_fib.specs.declared.flags.Flags.{Flags}
use Rattle.pit_fib.specs.Flags.{flags, flags_cmp, same_flags, flags_of, key_at}
use Rattle.pit_fib.specs.Faced.{Faced, set_in, none_in, has_place}
use Rattle.pit_fib.specs.FaceSet.{adding}
use Rattle.pit_fib.specs.declared.nacked.Nacked.{Nacked}
use Rattle.pit_fib.specs.declared.nacked.Nacked.TheVariants.{NoPending}
use Rattle.pit_fib.specs.Pit.{all_nacked, least_reason, was_sent}
use Rattle.pit_fib.specs.Records.{InRecord, OutRecord, Records, Pending, no_records, is_alive, records_code}
use Rattle.pit_fib.specs.Cause.{Cause, changed, until_after, with_reason}

-- the octets of the Interest: `octets` without the last `token_len` octets, which are the token
abbrev pub interest_in : ℕ → List ℕ → List ℕ
interest_in token_len octets = take (length octets - token_len) octets

-- the token, which is the last `token_len` octets of `octets`; None if `token_len` is 0
abbrev pub token_in : ℕ → List ℕ → Option (List ℕ)
token_in token_len octets =
    if token_len == 0 then None else Some (drop (length octets - token_len) octets)

-- the entry of a key: the key's records, and whether the entry has memory for the out-records of 64
-- faces
pub record Kept : Type 0 where
  pub records : Records
  pub is_wide : Bool

abbrev pub kept_code : Coded Kept
kept_code =
    code_by (Records × Bool) (coded× records_code coded_bool)
    (λ s. (s.records, s.is_wide)) (λ p. record { records = p.0; is_wide = p.1 }) (λ _. refl)

-- an entry that has no records, and has memory for `room` out-records
abbrev pub new_in : ℕ → Kept
new_in room = record { records = no_records; is_wide = (none_in {X = OutRecord} room).is_wide }

-- the out-records of an entry, with their memory
abbrev pub kept_out_records : Kept → Faced OutRecord
kept_out_records s = record { values = s.records.out_records; is_wide = s.is_wide }

abbrev pub with_out_records : Kept → Faced OutRecord → Kept
with_out_records s f =
    record { records = record s.records { out_records = f.values }; is_wide = f.is_wide }

-- the entry `s` with the in-record of the face set to `in_record`; `s` is unchanged if the face is
-- new and 64 faces have in-records
abbrev pub with_in_record : ℕ → InRecord → Kept → Kept
with_in_record face in_record s =
    if map.contains_key s.records.in_records face || nat_lt (map.len s.records.in_records) MAX_FACES
    then record s {
      records = record s.records {
        in_records = map.insert s.records.in_records face in_record;
      };
    } else s

-- The entry `s` with the out-record of the face set to `out_record`. The entry is unchanged if the
-- face is new and there is no memory for its out-record. Otherwise, if the entry's own memory does
-- not suffice, the out-records move into the supplied memory for `room` out-records.
abbrev pub sent_in : ℕ → ℕ → OutRecord → Kept → Kept
sent_in room face out_record s =
    with_out_records s (set_in room face out_record (kept_out_records s))

abbrev pub expired : ℕ → Kept → Kept
expired now s =
    record s {
      records = record s.records {
        in_records = revise (until_after now) s.records.in_records;
      };
    }

abbrev pub without_face : ℕ → Kept → Kept
without_face face s = record s {
  records = record {
    in_records = map.remove s.records.in_records face;
    out_records = map.remove s.records.out_records face;
  };
}

abbrev pub withdrawn : ℕ → Kept → Kept
withdrawn face s =
    record s { records = record s.records { in_records = map.remove s.records.in_records face } }

abbrev pub nacked : ℕ → List ℕ → ℕ → Kept → Kept
nacked face nonce reason s = record s {
  records = record s.records {
    out_records = with_reason face nonce reason s.records.out_records
        (map.get s.records.out_records face);
  };
}

-- the entry, or None if it has no in-record
abbrev pub living : Kept → Option Kept
living s = if is_alive s.records then Some s else None

-- the entry of a key after a cause, or None if no in-record is left in the entry
abbrev pub kept_after : Cause → PlainKey → Kept → Option Kept
kept_after cause k s = living (record s { records = changed cause k s.records })

-- the least deadline of an entry's in-records, or 0 if the entry has no in-records
abbrev pub deadline : Kept → ℕ
deadline s = least (λ in_record. in_record.deadline) (map.entries s.records.in_records)

-- the list `faces` with the faces of these in-records added; once the list has 64 faces, no face is
-- added
abbrev pub with_faces_of : List (ℕ × InRecord) → List ℕ → List ℕ
with_faces_of [] faces = faces
with_faces_of (e ∷ es) faces = with_faces_of es (adding e.0 faces).1

abbrev pub with_asking : Option Kept → List ℕ → List ℕ
with_asking None faces = faces
with_asking (Some s) faces = with_faces_of (map.entries s.records.in_records) faces

-- the lesser of two moments; if only one moment is given, this moment; if no moment is given, None
abbrev pub lesser : Option ℕ → Option ℕ → Option ℕ
lesser None b = b
lesser (Some a) None = Some a
lesser (Some a) (Some b) = Some (min a b)

-- ---- the row of a name

abbrev pub Row : Type 0
Row = map.FinMap flags_cmp Kept

-- the values that the function `has` returns for the four combinations of flags, in the order of
-- the flags; a combination is left out if its value is None
abbrev pub slots : {X : Type 0} → (Flags → Option X) → List (Flags × X)
slots has =
    with_entry (flags false false) (has (flags false false)) (
    with_entry (flags false true) (has (flags false true)) (
    with_entry (flags true false) (has (flags true false)) (
    with_entry (flags true true) (has (flags true true)) [])))

unfoldable pub row_of : {X : Type 0} → (Flags → Option X) → map.FinMap flags_cmp X
row_of has = map.from_sorted (slots has)

-- one of four values: `a` if no flag is set, `b` for MustBeFresh alone, `c` for CanBePrefix alone,
-- `d` for both flags
abbrev pub by_flags : {X : Type 0} → X → X → X → X → Flags → X
by_flags a b c d f =
    if f.can_be_prefix then (if f.must_be_fresh then d else c) else (
    if f.must_be_fresh then b else a)

-- the row in which each entry is changed or removed by the function `change`, or None if no entry
-- remains
abbrev pub changed_row : (Flags → Kept → Option Kept) → Row → Option Row
changed_row change row = nonempty (row_of (λ f. option_and_then (change f) (map.get row f)))

-- the function that applies `change` to the entry under the flags `f`, and leaves each other entry
-- unchanged
abbrev pub only : Flags → (Kept → Option Kept) → Flags → Kept → Option Kept
only f change g s = if same_flags g f then change s else Some s

-- the entry of a row under the key with these flags; None if there is no row or no such entry
abbrev pub kept_in : Option Row → Flags → Option Kept
kept_in row f = option_and_then (λ r. map.get r f) row

-- the row in which `s` is the entry under the key with these flags; if there was no row, a new row
-- with only this entry
abbrev pub with_kept : Flags → Kept → Option Row → Row
with_kept f s row = map.insert (unwrap_or row map.empty) f s

-- the row in which `in_record` is stored for the face, under the key with these flags
-- (`with_in_record`); if the key had no entry, the new entry has memory for `room` out-records
abbrev pub row_arrived : Flags → ℕ → InRecord → ℕ → Option Row → Row
row_arrived f face in_record room row =
    with_kept f (with_in_record face in_record (unwrap_or (kept_in row f) (new_in room))) row

-- the row in which the given entry is set under the key with these flags; if no entry is given, the
-- old row, or an empty row if there was no row
abbrev pub with_kept_if : Flags → Option Kept → Option Row → Row
with_kept_if f None row = unwrap_or row map.empty
with_kept_if f (Some s) row = with_kept f s row

-- The row in which `out_record` is stored for the face, under the key with these flags (`sent_in`).
-- If the key has no entry, the result is the old row, or an empty row if there was no row. The call
-- `sent` supplies memory for `room` out-records in addition to the entry's own memory.
abbrev pub row_sent : Flags → ℕ → OutRecord → ℕ → Option Row → Row
row_sent f face out_record room row =
    with_kept_if f (option_map (sent_in room face out_record) (kept_in row f)) row

-- Whether a Data answers the key with these flags. If the key's name is the Data's name or full
-- name (`is_own`), the Data answers every key of that name. If the key's name is a proper prefix of
-- the Data's name, the Data answers only the keys with CanBePrefix.
abbrev pub is_answered : Bool → Flags → Bool
is_answered is_own f = is_own || f.can_be_prefix

abbrev pub unanswered : Bool → Flags → Kept → Option Kept
unanswered is_own f s = if is_answered is_own f then None else Some s

-- The list `faces` with more faces added: the faces that have an in-record under an answered key of
-- the row (`is_answered`). Once the list has 64 faces, no face is added.
abbrev pub with_answered : Bool → List ℕ → Row → List ℕ
with_answered is_own faces row =
    with_asking (map.get row (flags true true)) (
    with_asking (map.get row (flags true false)) (
    if is_own then with_asking (map.get row (flags false true)) (
    with_asking (map.get row (flags false false)) faces) else faces))

-- ---- the table

abbrev pub Rows : Type 0
Rows = ByName Row

-- the entry of a key, if there is one
abbrev pub kept_at : Rows → PlainKey → Option Kept
kept_at rows k = option_and_then (λ r. map.get r (flags_of k)) (map.get rows k.name)

-- the records of each key that has an entry in `rows`
abbrev pub pending_of : Rows → Pending
pending_of rows = revise (λ s. Some s.records) (flatten key_cmp key_at rows)

-- whether the entry exists, and its out-record of the face has this Nonce
abbrev pub was_sent_in : Option Kept → ℕ → List ℕ → Bool
was_sent_in None face nonce = false
was_sent_in (Some s) face nonce = was_sent (map.get s.records.out_records face) nonce

-- the result of a Nack whose reason is already recorded in the entry of the Nack's key; NoPending
-- if there is no entry
abbrev pub answer_in : Option Kept → ℕ → Nacked
answer_in None reason = NoPending
answer_in (Some s) reason = all_nacked (least_reason reason (map.entries s.records.out_records))

-- whether the entry has an out-record of this face, or memory for one more out-record; true if
-- there is no entry
abbrev pub has_place_in : Option Kept → ℕ → Bool
has_place_in None face = true
has_place_in (Some s) face =
    map.contains_key s.records.out_records face || has_place (kept_out_records s)
