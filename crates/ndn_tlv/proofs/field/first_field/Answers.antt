use Rattle.std.proofs.Common.{sym, ap, ◌∙◌, arith}
use Rattle.ndn_tlv.proofs.Fields.{elements_of-empty}
use Rattle.ndn_tlv.specs.Fields.{first_of}
use Rattle.ndn_tlv.proofs.field.first_field.Goals as goal

pub returns-clause-exact : goal.returns-clause-exact
returns-clause-exact c =
    sym (ap (first_of c.args.kind) (elements_of-empty c.loop-rest.rest.now (grind (arith, c.loop-rest-test.ensures))))
    ∙ c.loop-rest.invariant.same
