use Rattle.std.proofs.Common.{◌≡◌, length}
use Rattle.std.specs.List.{list_all}
use Rattle.ndn_tlv.specs.Reading.{elements_of}
use Rattle.repo_core.specs.Reading.{can_be_read}
use Rattle.repo_core.proofs.fields.are_elements.Given as goal

-- all remaining elements are well formed if and only if all elements are well formed
abbrev pub invariant-loop-rest : goal.invariant-loop-rest
invariant-loop-rest l = list_all can_be_read (elements_of l.rest) ≡ list_all can_be_read (elements_of l.octets)

abbrev pub decreases-loop-rest : goal.decreases-loop-rest
decreases-loop-rest l = length l.rest
