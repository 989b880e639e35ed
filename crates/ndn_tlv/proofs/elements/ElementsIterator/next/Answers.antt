use Rattle.std.proofs.Common.{sym, rules}
use Rattle.std.proofs.lemmas.Bool.{eqb-true, eqb-false}
use Rattle.ndn_tlv.proofs.Fields.{elements_of-empty, elements_of-last, length-elements_of-last}
use Rattle.ndn_tlv.proofs.elements.ElementsIterator.next.Goals as goal

pub returns-then-is_empty-clause-steps : goal.returns-then-is_empty-clause-steps
returns-then-is_empty-clause-steps c =
    let e = elements_of-empty c.args.self.now.rest.now (eqb-true _ _ (sym c.if-is_empty.ensures)) in
    (e, e)

pub returns-in-Err-clause-steps : goal.returns-in-Err-clause-steps
returns-in-Err-clause-steps c = elements_of-last c.args.self.now.rest.now c.in-Err.fault (eqb-false _ _ (sym c.if-is_empty.ensures)) c.in-Err.ensures.walk

pub returns-in-Err-clause-goes : goal.returns-in-Err-clause-goes
returns-in-Err-clause-goes c =
    let e = elements_of-last c.args.self.now.rest.now c.in-Err.fault (eqb-false _ _ (sym c.if-is_empty.ensures)) c.in-Err.ensures.walk in
    let l = length-elements_of-last c.args.self.now.rest.now c.in-Err.fault e in
    search (rules, l)
