use Rattle.journal.proofs.Journals.{keeps, keeps_policy, next_effect}
use Rattle.journal.proofs.law.journals_keep_policy.Goals as goal

pub returns-clause-policy : goal.returns-clause-policy
returns-clause-policy c = keeps_policy

pub returns-clause-journal : goal.returns-clause-journal
returns-clause-journal c = λ first p past again journal apart h j e.
    let k = keeps first p past again journal apart h j e in k.same

pub returns-clause-some : goal.returns-clause-some
returns-clause-some c = λ first p past again journal apart h j e.
    let k = keeps first p past again journal apart h j e in (k.left, k.is_policy)

pub returns-clause-next : goal.returns-clause-next
returns-clause-next c = next_effect
