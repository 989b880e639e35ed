use Rattle.std.proofs.Common.{◌≡◌, ◌≤◌, length}
use Rattle.ndn_tlv.specs.Reading.{elements_of}
use Rattle.ndn_tlv.specs.Fields.{first_of}
use Rattle.ndn_tlv.proofs.field.first_field.Given as goal

-- A search for the type `kind` has the same result in the remaining octets as in all octets. The
-- number of remaining octets is at most the number of all octets.
abbrev pub invariant-loop-rest : goal.invariant-loop-rest
invariant-loop-rest l = record {
  same : first_of l.kind (elements_of l.rest) ≡ first_of l.kind (elements_of l.octets);
  within : length l.rest ≤ length l.octets;
}

abbrev pub decreases-loop-rest : goal.decreases-loop-rest
decreases-loop-rest l = length l.rest
