use Rattle.std.proofs.Common.{sym, ap, ◌∙◌, arith}
use Rattle.std.specs.List.{list_all}
use Rattle.ndn_tlv.proofs.Fields.{elements_of-empty}
use Rattle.mgmt_core.specs.Commands.{row_of}
use Rattle.mgmt_core.specs.Reading.{fits}
use Rattle.mgmt_core.proofs.fields.are_fields.Goals as goal

pub returns : goal.returns
returns c =
    sym (ap (list_all (fits (row_of c.args.action))) (elements_of-empty c.loop-rest.rest.now (grind (arith, c.loop-rest-test.ensures))))
    ∙ c.loop-rest.invariant
