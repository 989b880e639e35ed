use Rattle.scenarios.proofs.Reports.{IsReport-difference}
use Rattle.scenarios.proofs.report.put_report.Goals as goal

pub returns-in_ok-put_difference-in-Some : goal.returns-in_ok-put_difference-in-Some
returns-in_ok-put_difference-in-Some c =
    IsReport-difference _ _ _ _ _ _ _ c.in-Some.ensures.different (λ same. cc (c.in-Some.ensures.equal.1 same))
    c.in_ok-put_difference-in-Some.ensures
