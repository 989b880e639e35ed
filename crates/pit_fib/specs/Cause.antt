-- The causes that change the records of a key (NFD Developer's Guide, "Pending Interest Table",
-- "Forwarding Pipelines").
use Rattle.std.specs.Prelude.{◌≡◌, ℕ, Bool, List, Option, None, Some, nat_lt, if◌then◌else◌}
use Rattle.std.specs.Ordering.{eq_by_cmp}
use Rattle.std.specs.FinMap as map
use Rattle.ndn_tlv.specs.Element.{Field}
use Rattle.ndn_packets.specs.Answers.{answers}
use Rattle.ndn_packets.specs.Key.{PlainKey, key_cmp}
use Rattle.name_trie.specs.ByName.{revise}
use Rattle.pit_fib.specs.Records.{InRecord, OutRecord, OutRecords, Records, Pending, no_records, is_alive, records_at, same_nonce}

pub data Cause : Type 0 where
  -- the time is `now`: in-records expire if their deadline is `now` or earlier
  Expires : (now : ℕ) → Cause
  -- an Interest of this key arrived on a face
  Arrives : (key : PlainKey) (face : ℕ) (in_record : InRecord) → Cause
  -- an Interest of this key was sent to a face
  SentTo : (key : PlainKey) (face : ℕ) (nonce : List ℕ) (moment : ℕ) → Cause
  -- a Data of this name and implicit digest came, and satisfied the Interests that the Data answers
  Satisfied : (name : List Field) (digest : List ℕ) → Cause
  -- a Nack with this Nonce and reason, for an Interest of this key, arrived on a face
  NackCame : (key : PlainKey) (face : ℕ) (nonce : List ℕ) (reason : ℕ) → Cause
  -- the in-record of a face under this key was removed
  Withdrawn : (key : PlainKey) (face : ℕ) → Cause
  -- all records of this key were removed
  Removed : (key : PlainKey) → Cause
  -- a face closed
  Closed : (face : ℕ) → Cause

abbrev pub same_key : PlainKey → PlainKey → Bool
same_key = eq_by_cmp key_cmp

-- the in-record, or None if its deadline is `now` or earlier
abbrev pub until_after : ℕ → InRecord → Option InRecord
until_after now in_record = if nat_lt now in_record.deadline then Some in_record else None

-- a new out-record: an Interest with this Nonce was sent at `moment`, and no Nack has come yet
abbrev pub sent_at : List ℕ → ℕ → OutRecord
sent_at nonce moment = record { nonce = nonce; moment = moment; reason = None }

-- the out-record after a Nack: with the Nack's reason if the Nack has the out-record's Nonce, and
-- unchanged otherwise
abbrev pub nacked_with : List ℕ → ℕ → OutRecord → OutRecord
nacked_with nonce reason out_record =
    if same_nonce out_record.nonce nonce then record out_record { reason = Some reason }
    else out_record

-- The out-records after a Nack with this Nonce and reason arrives on a face. The last argument is
-- the face's out-record, or None if the face has no out-record.
abbrev pub with_reason : ℕ → List ℕ → ℕ → OutRecords → Option OutRecord → OutRecords
with_reason face nonce reason out_records None = out_records
with_reason face nonce reason out_records (Some out_record) =
    map.insert out_records face (nacked_with nonce reason out_record)

-- The records of a key after the change that a cause makes. If no in-record is left, out-records
-- may still be left; `settled` removes these out-records.
abbrev pub changed : Cause → PlainKey → Records → Records
changed (Expires now) k r = record r { in_records = revise (until_after now) r.in_records }
changed (Arrives key face in_record) k r =
    if same_key k key then record r { in_records = map.insert r.in_records face in_record } else r
changed (SentTo key face nonce moment) k r =
    if same_key k key then record r {
      out_records = map.insert r.out_records face (sent_at nonce moment);
    } else r
changed (Satisfied name digest) k r =
    if answers name digest k.name k.can_be_prefix then no_records else r
changed (NackCame key face nonce reason) k r =
    if same_key k key then record r {
      out_records = with_reason face nonce reason r.out_records (map.get r.out_records face);
    } else r
changed (Withdrawn key face) k r =
    if same_key k key then record r { in_records = map.remove r.in_records face } else r
changed (Removed key) k r = if same_key k key then no_records else r
changed (Closed face) k r =
    record {
      in_records = map.remove r.in_records face;
      out_records = map.remove r.out_records face;
    }

-- the records of a key; if no in-record is left, the out-records are removed too
abbrev pub settled : Records → Records
settled r = if is_alive r then r else no_records

abbrev pub records_after : Cause → PlainKey → Records → Records
records_after cause k r = settled (changed cause k r)

-- for each key, the cause changes the key's records in `old` into the key's records in `new`
abbrev pub Follows : Cause → Pending → Pending → Type 0
Follows cause old new =
    (k : PlainKey) → records_at new k ≡ records_after cause k (records_at old k)
