use Rattle.std.proofs.Common.{sym, ap, ◌∙◌, arith}
use Rattle.std.specs.List.{list_all}
use Rattle.ndn_tlv.proofs.Fields.{elements_of-empty}
use Rattle.repo_core.specs.Reading.{can_be_read}
use Rattle.repo_core.proofs.fields.are_elements.Goals as goal

pub returns : goal.returns
returns c =
    sym (ap (list_all can_be_read) (elements_of-empty c.loop-rest.rest.now (grind (arith, c.loop-rest-test.ensures))))
    ∙ c.loop-rest.invariant
