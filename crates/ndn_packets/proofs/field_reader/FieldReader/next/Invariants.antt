use Rattle.std.proofs.Common.{◌≡◌, ◌≤◌, ℕ, length, IsSome}
use Rattle.ndn_packets.specs.Covered.{from_first}
use Rattle.ndn_packets.specs.Reading.{schema_after}
use Rattle.ndn_packets.specs.FieldReader.{fields_left}
use Rattle.ndn_packets.proofs.field_reader.FieldReader.next.Given as goal

abbrev pub invariant-loop-element : goal.invariant-loop-element
invariant-loop-element l =
    (fields_left l.self ≡ fields_left l.fn.self)
    × (length l.self.rest.now ≤ length l.fn.self.rest.now)
    × (l.self.schema.now ≡ l.fn.self.schema.now)
    × ((kind : ℕ) → IsSome (schema_after kind l.fn.self.schema.now) → from_first kind l.fn.self.rest.now ≡ from_first kind l.self.rest.now)

abbrev pub decreases-loop-element : goal.decreases-loop-element
decreases-loop-element l = length l.self.rest.now
