-- A number of octets that is enough for the Nacks for all in-records of a key.
use Rattle.std.specs.Prelude.{ℕ, ◌+◌, List, length, Option, None, Some, sum_by}
use Rattle.std.specs.FinMap as map
use Rattle.ndn_packets.specs.Key.{PlainKey}
use Rattle.pit_fib.specs.Records.{InRecord, InRecords, Pending, records_at}
use Rattle.forwarder.specs.declared.sends.TheConstants.{LINK_EXTRA}

-- the in-records of a key, by face; none if the key has no records
abbrev pub in_records_at : Pending → PlainKey → InRecords
in_records_at pending key = (records_at pending key).in_records

abbrev pub room_for : Option InRecord → ℕ
room_for None = 0
room_for (Some in_record) = length in_record.interest + LINK_EXTRA

abbrev pub nack_room : InRecords → List ℕ → ℕ
nack_room in_records faces =
    sum_by (λ face. room_for (map.get in_records face)) faces
