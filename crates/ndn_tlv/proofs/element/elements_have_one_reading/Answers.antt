use Rattle.std.proofs.Common.{sym, ◌∙◌}
use Rattle.ndn_tlv.proofs.Fields.{elements_same, elements_read, elements_exact, elements_cut}
use Rattle.ndn_tlv.proofs.element.elements_have_one_reading.Goals as goal

pub returns-clause-one : goal.returns-clause-one
returns-clause-one c = λ text xs ys p q. elements_same xs ys p.0 q.0 (sym p.1 ∙ q.1)

pub returns-clause-exact : goal.returns-clause-exact
returns-clause-exact c = λ text fields fits. (elements_read text fields fits, elements_exact text fields)

pub returns-clause-fault : goal.returns-clause-fault
returns-clause-fault c = λ text fields fault fits e.
    let cut = elements_cut text fields fault fits e in
    (cut.rest, cut.parts, cut.fields_fit, cut.some, cut.stands)
