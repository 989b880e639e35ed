use Rattle.std.proofs.Common.{arith}
use Rattle.ndn_tlv.proofs.Numbers.{number_of-found, number_of-only, number_of-fault}
use Rattle.ndn_tlv.proofs.number.number_of.Goals as goal

pub returns-clause-found : goal.returns-clause-found
returns-clause-found c = number_of-found (λ x. (x.0, x.1.now)) c.leading_number.result c.args.octets.now (λ i. omega (arith, c.type_inv.octets i)) c.leading_number.ensures

pub returns-clause-only : goal.returns-clause-only
returns-clause-only c = number_of-only (λ x. (x.0, x.1.now)) c.leading_number.result c.args.octets.now c.leading_number.ensures

pub returns-clause-fault : goal.returns-clause-fault
returns-clause-fault c = number_of-fault (λ x. (x.0, x.1.now)) c.leading_number.result c.args.octets.now (λ i. omega (arith, c.type_inv.octets i)) c.leading_number.ensures
