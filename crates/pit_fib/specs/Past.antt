-- The records of a key as a function of the past, face by face (NFD Developer's Guide, "Pending
-- Interest Table").
use Rattle.std.specs.Prelude.{ℕ, List, [], ◌∷◌, Option, None, Some, if◌then◌else◌, ◌==◌, ◌&&◌, option_and_then}
use Rattle.std.specs.Option.{option_map}
use Rattle.ndn_packets.specs.Answers.{answers}
use Rattle.ndn_packets.specs.Key.{PlainKey}
use Rattle.pit_fib.specs.Records.{InRecord, OutRecord, Records, no_records, is_alive}
use Rattle.pit_fib.specs.Cause.{Cause, Expires, Arrives, SentTo, Satisfied, NackCame, Withdrawn, Removed, Closed, same_key, until_after, sent_at, nacked_with, records_after}

-- the records of a key after these causes, where the latest cause comes first in the list
abbrev pub records_after_all : List Cause → PlainKey → Records
records_after_all [] k = no_records
records_after_all (cause ∷ before) k = records_after cause k (records_after_all before k)

-- the in-record of the face f under the key k after one more cause, where `was` is the in-record
-- before the cause
abbrev pub in_record_after : Cause → PlainKey → ℕ → Option InRecord → Option InRecord
in_record_after (Expires now) k f was = option_and_then (until_after now) was
in_record_after (Arrives key face in_record) k f was =
    if same_key k key && (f == face) then Some in_record else was
in_record_after (SentTo key face nonce moment) k f was = was
in_record_after (Satisfied name digest) k f was =
    if answers name digest k.name k.can_be_prefix then None else was
in_record_after (NackCame key face nonce reason) k f was = was
in_record_after (Withdrawn key face) k f was = if same_key k key && (f == face) then None else was
in_record_after (Removed key) k f was = if same_key k key then None else was
in_record_after (Closed face) k f was = if f == face then None else was

-- the in-record of a face after these causes: the in-record of the face's last Interest of the key;
-- None if there is no such Interest, or if a later cause has removed this in-record
abbrev pub in_record_of : List Cause → PlainKey → ℕ → Option InRecord
in_record_of [] k f = None
in_record_of (cause ∷ before) k f = in_record_after cause k f (in_record_of before k f)

-- The out-record of the face g under the key k after one more cause, if the key has an in-record
-- after the cause. `was` is the out-record before the cause.
abbrev pub out_record_after : Cause → PlainKey → ℕ → Option OutRecord → Option OutRecord
out_record_after (Expires now) k g was = was
out_record_after (Arrives key face in_record) k g was = was
out_record_after (SentTo key face nonce moment) k g was =
    if same_key k key && (g == face) then Some (sent_at nonce moment) else was
out_record_after (Satisfied name digest) k g was =
    if answers name digest k.name k.can_be_prefix then None else was
out_record_after (NackCame key face nonce reason) k g was =
    if same_key k key && (g == face) then option_map (nacked_with nonce reason) was else was
out_record_after (Withdrawn key face) k g was = was
out_record_after (Removed key) k g was = if same_key k key then None else was
out_record_after (Closed face) k g was = if g == face then None else was

-- the out-record of a face after these causes: the out-record of the last Interest that was sent to
-- the face under the key; None if there is no such Interest, or if, since then, the face has closed
-- or the key had no in-record at some time
abbrev pub out_record_of : List Cause → PlainKey → ℕ → Option OutRecord
out_record_of [] k g = None
out_record_of (cause ∷ before) k g =
    if is_alive (records_after_all (cause ∷ before) k)
    then out_record_after cause k g (out_record_of before k g)
    else None
