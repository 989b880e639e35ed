use Rattle.std.proofs.Common.{◌≡◌, length}
use Rattle.std.specs.List.{list_all}
use Rattle.ndn_tlv.specs.Reading.{elements_of}
use Rattle.mgmt_core.specs.Commands.{row_of}
use Rattle.mgmt_core.specs.Reading.{fits}
use Rattle.mgmt_core.proofs.fields.are_fields.Given as goal

-- all remaining elements fit the action (`fits`) if and only if all elements fit the action
abbrev pub invariant-loop-rest : goal.invariant-loop-rest
invariant-loop-rest l =
    list_all (fits (row_of l.action)) (elements_of l.rest)
    ≡ list_all (fits (row_of l.action)) (elements_of l.octets)

abbrev pub decreases-loop-rest : goal.decreases-loop-rest
decreases-loop-rest l = length l.rest
