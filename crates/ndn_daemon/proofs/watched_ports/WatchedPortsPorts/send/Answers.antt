use Rattle.node_ports.proofs.Wrapped.{err_then, ok_then}
use Rattle.ndn_daemon.proofs.Watching.{watched_other}
use Rattle.ndn_daemon.proofs.watched_ports.WatchedPortsPorts.send.Goals as goal

pub returns-clause-gave : goal.returns-clause-gave
returns-clause-gave g c = ok_then c.send.result _ _ (λ h. watched_other g.P.Ports.does g.S.RuleSource.renews _ _ _ _ _ (g.met.P.Ports.rests _) (g.met.S.RuleSource.rests _) tt h) c.send.ensures.gave

pub returns-clause-failed : goal.returns-clause-failed
returns-clause-failed g c = err_then c.send.result _ _ (λ h. watched_other g.P.Ports.does g.S.RuleSource.renews _ _ _ _ _ (g.met.P.Ports.rests _) (g.met.S.RuleSource.rests _) tt h) c.send.ensures.failed
