use Rattle.forwarder.proofs.Histories.{one_policy, histories_answer, histories_judge}
use Rattle.forwarder.proofs.law.histories_decide.Goals as goal

pub returns-clause-policy : goal.returns-clause-policy
returns-clause-policy c = λ first p q past other apart same h k. one_policy first p q past other apart same h k

pub returns-clause-answers : goal.returns-clause-answers
returns-clause-answers c = λ first p past other event a b apart same is brings h k. histories_answer first past other event a b apart same h k p is brings

pub returns-clause-verdicts : goal.returns-clause-verdicts
returns-clause-verdicts c = λ first past other event a b apart same brings h k. histories_judge first past other event a b apart same h k brings
