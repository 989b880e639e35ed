use Rattle.node_ports.proofs.Wrapped.{err_then, ok_then, restarted_other}
use Rattle.node_ports.proofs.restarted.RestartedPortsPorts.send.Goals as goal

pub returns-clause-gave : goal.returns-clause-gave
returns-clause-gave g c = ok_then c.send.result _ _ (λ h. restarted_other g.P.Ports.does _ _ _ _ (g.met.P.Ports.rests _) tt h) c.send.ensures.gave

pub returns-clause-failed : goal.returns-clause-failed
returns-clause-failed g c = err_then c.send.result _ _ (λ h. restarted_other g.P.Ports.does _ _ _ _ (g.met.P.Ports.rests _) tt h) c.send.ensures.failed
