use Rattle.node_ports.proofs.Wrapped.{err_then, ok_then}
use Rattle.ndn_daemon.proofs.Watching.{watched_line, watched_other}
use Rattle.ndn_daemon.proofs.watched_ports.WatchedPortsPorts.commit.Goals as goal

pub returns-clause-done : goal.returns-clause-done
returns-clause-done g c = ok_then c.commit.result _ _ (λ h. watched_line g.P.Ports.does g.S.RuleSource.renews _ _ _ _ _ _ (g.met.P.Ports.rests _) (g.met.S.RuleSource.rests _) h) c.commit.ensures.done

pub returns-clause-failed : goal.returns-clause-failed
returns-clause-failed g c =
    err_then c.commit.result _ _ (λ h. (h.0, (h.1.0, h.1.1, watched_other g.P.Ports.does g.S.RuleSource.renews _ _ _ _ _ (g.met.P.Ports.rests _) (g.met.S.RuleSource.rests _) tt h.1.2))) c.commit.ensures.failed
