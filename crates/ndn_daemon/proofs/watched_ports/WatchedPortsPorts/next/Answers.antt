use Rattle.std.proofs.Common.{length}
use Rattle.node_ports.specs.Ports.{arrived}
use Rattle.ndn_daemon.proofs.Watching.{watched_ended, watched_failed, watched_given, watched_held}
use Rattle.ndn_daemon.proofs.watched_ports.WatchedPortsPorts.next.Goals as goal

pub returns-in-Some-clause-came : goal.returns-in-Some-clause-came
returns-in-Some-clause-came g c =
    let taken = c.in-Some.ensures.taken in
    watched_held g.P.Ports.does g.S.RuleSource.renews c.args.self.now.ports c.args.self.now.source c.args.self.now.held c.take.new.self taken.0 (length c.take.new.buffer) (arrived c.in-Some.arrival c.take.new.buffer)
    (g.met.P.Ports.rests _) (g.met.S.RuleSource.rests _) taken.1 taken.2 c.take.ensures.empty

pub returns-in-Ok-Some-clause-came : goal.returns-in-Ok-Some-clause-came
returns-in-Ok-Some-clause-came g c =
    let after = c.renewed_first.new.self in
    watched_given g.P.Ports.does g.S.RuleSource.renews c.args.self.now.ports after.ports c.args.self.now.source after.source c.args.self.now.held after.held (length c.next.new.buffer)
    (arrived c.in-Ok-Some.arrival c.next.new.buffer) (arrived c.renewed_first.result c.next.new.buffer) (g.met.P.Ports.rests _) (g.met.S.RuleSource.rests _) (c.take.ensures.none c.in_default.is)
    (rw c.renewed_first.ensures.ports (rw c.in-Ok-Some.field-0-is at c.in-Ok-Some.ensures.came)) c.renewed_first.ensures.renewed

pub returns-in-Ok-None-clause-came : goal.returns-in-Ok-None-clause-came
returns-in-Ok-None-clause-came g c =
    watched_ended g.P.Ports.does g.S.RuleSource.renews c.args.self.now.ports c.next.new.self c.args.self.now.source c.args.self.now.held c.take.new.self (g.met.P.Ports.rests _) (g.met.S.RuleSource.rests _)
    (c.take.ensures.none c.in_default.is) c.take.ensures.empty (rw c.in-Ok-None.field-0-is at c.in-Ok-None.ensures.came)

pub returns-in-Err-clause-failed : goal.returns-in-Err-clause-failed
returns-in-Err-clause-failed g c =
    watched_failed g.P.Ports.does g.S.RuleSource.renews c.args.self.now.ports c.next.new.self c.args.self.now.source c.args.self.now.held c.take.new.self (g.met.P.Ports.rests _) (g.met.S.RuleSource.rests _)
    (c.take.ensures.none c.in_default.is) c.take.ensures.empty c.in-Err.ensures.failed
