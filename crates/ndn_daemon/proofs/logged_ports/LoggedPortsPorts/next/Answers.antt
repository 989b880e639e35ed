use Rattle.std.proofs.Common.{[]}
use Rattle.ndn_daemon.proofs.logged_ports.LoggedPortsPorts.next.Goals as goal

pub returns-in-Ok-Some-clause-came : goal.returns-in-Ok-Some-clause-came
returns-in-Ok-Some-clause-came g c =
    rw c.see.ensures.ports (g.met.P.Ports.goes_on _ _ _ [] _ (c.next_or_write_out.ensures.none c.in_default.is) (rw c.in-Ok-Some.field-0-is at c.in-Ok-Some.ensures.came))

pub returns-in-Ok-None-clause-came : goal.returns-in-Ok-None-clause-came
returns-in-Ok-None-clause-came g c = g.met.P.Ports.goes_on _ _ _ [] _ (c.next_or_write_out.ensures.none c.in_default.is) (rw c.in-Ok-None.field-0-is at c.in-Ok-None.ensures.came)

pub returns-in-Err-clause-failed : goal.returns-in-Err-clause-failed
returns-in-Err-clause-failed g c = g.met.P.Ports.goes_on _ _ _ [] _ (c.next_or_write_out.ensures.none c.in_default.is) c.in-Err.ensures.failed
