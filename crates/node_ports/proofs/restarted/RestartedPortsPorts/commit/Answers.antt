use Rattle.node_ports.proofs.Wrapped.{err_then, ok_then, restarted_line, restarted_other}
use Rattle.node_ports.proofs.restarted.RestartedPortsPorts.commit.Goals as goal

pub returns-clause-done : goal.returns-clause-done
returns-clause-done g c = ok_then c.commit.result _ _ (λ h. restarted_line g.P.Ports.does _ _ _ _ _ (g.met.P.Ports.rests _) h) c.commit.ensures.done

pub returns-clause-failed : goal.returns-clause-failed
returns-clause-failed g c = err_then c.commit.result _ _ (λ h. (h.0, (h.1.0, h.1.1, restarted_other g.P.Ports.does _ _ _ _ (g.met.P.Ports.rests _) tt h.1.2))) c.commit.ensures.failed
