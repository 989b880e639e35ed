use Rattle.std.proofs.Common.{◌≡◌, [], map, sym, ap, List, ℕ, rules}
use Rattle.std.specs.Global.{Vec}
use Rattle.forwarder.specs.declared.event.Event.{Event}
use Rattle.node_ports.specs.Ports.{plain_arrival}
use Rattle.node_ports.specs.Renewal.{RenewalValue}
use Rattle.node_ports.proofs.Wrapped.{err_then, if_ok_then, restarted_none, restarted_own}
use Rattle.node_ports.proofs.restarted.RestartedPortsPorts.next.Goals as goal

pub returns-in-Some-clause-came : goal.returns-in-Some-clause-came
returns-in-Some-clause-came g c =
    restarted_own g.P.Ports.does c.args.self.now.ports _ _ (plain_arrival c.in-Some.event) _ _ (g.met.P.Ports.rests c.args.self.now.ports)
    (ap (λ (l : List (Event (Vec ℕ) RenewalValue)). map plain_arrival l) c.in-Some.ensures.items) c.put_event.ensures.event

pub returns-in-None-clause-came : goal.returns-in-None-clause-came
returns-in-None-clause-came g c =
    let none : c.args.self.now.first.items ≡ [] = search rules in
    if_ok_then c.next.result _ _
    (λ arrival h. restarted_none g.P.Ports.does _ _ _ _ _ (g.met.P.Ports.rests _) (ap (λ (l : List (Event (Vec ℕ) RenewalValue)). map plain_arrival l) none) (ap (λ (l : List (Event (Vec ℕ) RenewalValue)). map plain_arrival l) (sym c.in-None.ensures.items)) h)
    c.next.ensures.came

pub returns-in-None-clause-failed : goal.returns-in-None-clause-failed
returns-in-None-clause-failed g c =
    let none : c.args.self.now.first.items ≡ [] = search rules in
    err_then c.next.result _ _
    (λ h. restarted_none g.P.Ports.does _ _ _ _ _ (g.met.P.Ports.rests _) (ap (λ (l : List (Event (Vec ℕ) RenewalValue)). map plain_arrival l) none) (ap (λ (l : List (Event (Vec ℕ) RenewalValue)). map plain_arrival l) (sym c.in-None.ensures.items)) h)
    c.next.ensures.failed
