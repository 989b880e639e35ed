use Rattle.std.proofs.Common.{◌∙◌, arith}
use Rattle.ndn_tlv.proofs.Integers.{nni_of-found, nni_of-fault, nni_again}
use Rattle.ndn_tlv.proofs.integer.nni_of.Goals as goal

pub returns-clause-found : goal.returns-clause-found
returns-clause-found c = nni_of-found c.args.value.now c.integer_of.result (λ i. omega (arith, c.type_inv.value i)) c.integer_of.ensures

pub returns-clause-only : goal.returns-clause-only
returns-clause-only c = λ n h. c.integer_of.ensures ∙ nni_again c.args.value.now n h

pub returns-clause-fault : goal.returns-clause-fault
returns-clause-fault c = nni_of-fault c.args.value.now c.integer_of.result c.integer_of.ensures
