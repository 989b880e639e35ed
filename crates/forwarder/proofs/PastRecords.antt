-- The records after a run, event by event.
use Rattle.std.proofs.Common.{◌≡◌, ℕ, List, [], ◌∷◌, refl}
use Rattle.std.specs.Prelude.{max}
use Rattle.ndn_packets.specs.Key.{PlainKey}
use Rattle.pit_fib.specs.Cause.{Cause, Expires, records_after}
use Rattle.pit_fib.specs.Past.{records_after_all as records_of_causes}
use Rattle.pit_fib.specs.Records.{Records}
use Rattle.forwarder.specs.Event.{PlainEvent, moment}
use Rattle.forwarder.specs.Causes.{after_causes, before_earlier, causes_of}
use Rattle.forwarder.specs.Runs.{Run, Then, now_of, past_causes, records_of}
use Rattle.forwarder.specs.Verdict.{Answer}

-- Let some records result from the causes in `earlier`. Applying `causes` to these records, in
-- order, gives the records after all causes of both lists.
all_causes : (causes earlier : List Cause) (key : PlainKey) → after_causes causes key (records_of_causes earlier key) ≡ records_of_causes (before_earlier causes earlier) key
all_causes [] earlier key = refl
all_causes (cause ∷ causes) earlier key = all_causes causes (cause ∷ earlier) key

-- the records of a key after an event, if `r` are the records of the key before the event
abbrev pub next_records : ℕ → PlainEvent → Answer → PlainKey → Records → Records
next_records now event answer key r = after_causes (causes_of now event answer) key (records_after (Expires now) key r)

pub records_then : (before : Run) (event : PlainEvent) (answer : Answer) (key : PlainKey)
    → next_records (max (now_of before) (moment event)) event answer key (records_of before key) ≡ records_of (Then before event answer) key
records_then before event answer key =
    let now = max (now_of before) (moment event) in all_causes (causes_of now event answer) (Expires now ∷ past_causes before) key
