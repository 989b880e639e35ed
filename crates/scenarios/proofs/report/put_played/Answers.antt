use Rattle.scenarios.proofs.Reports.{Reported-line}
use Rattle.scenarios.proofs.report.put_played.Goals as goal

pub returns-in-Ok : goal.returns-in-Ok
returns-in-Ok c =
    Reported-line c.args.scenario.now _ _ _ c.in_ok-found.found.items _ _ _ c.in_ok-found.ensures
    c.deref.ensures.value c.deref-2.ensures.value c.deref-3.ensures.value c.in-Ok.ensures
