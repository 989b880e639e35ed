use Rattle.std.proofs.Common.{◌<◌, ◌∙◌, ◌++◌, length, sym, arith, add-zero}
use Rattle.forwarder.specs.Event.{Send}
use Rattle.node_core.proofs.Appending.{none_is_no_send}
use Rattle.node_ports.proofs.Turns.{failed_one, sent_next, sent_one, when_err, when_ok}
use Rattle.node_ports.proofs.serving.send_all.Goals as goal
use Rattle.node_ports.proofs.serving.send_all.Goals.{in-Some+then-is_err, in-Some+else-is_err, in_default}

pub loop-i-preserved : goal.loop-i-preserved
loop-i-preserved g c =
    let i = c.loop-i.invariant in
    let sends = c.args.outbox.now in
    let more : c.loop-i.i < length sends = omega arith in
    elim c.match-sent.branch [
      | in-Some+then-is_err w ↦
          let sent : Send = (w.in-Some.face, w.in-Some.octets.now) in
          let did = when_err _ w.send.result (sym w.is_err.ensures.value ∙ w.if-is_err.true) w.send.ensures.failed in
          let all = g.met.P.Ports.goes_on c.args.ports.now c.loop-i.ports w.send.new.self i.sent.0 _ i.sent.1 did in
          record {
            few = let e = w.failed-is in omega (arith, e, i.few);
            sent = rw (w.ports-is, w.failed-is) (i.sent.0 ++ _, all, sent_next sends c.loop-i.i c.loop-i.failed 1 sent i.sent.0 _ (sym w.in-Some.ensures) i.sent.2 (failed_one sent));
          }
      | in-Some+else-is_err w ↦
          let sent : Send = (w.in-Some.face, w.in-Some.octets.now) in
          let did = when_ok _ w.send.result (sym w.is_err.ensures.value ∙ w.if-is_err.false) w.send.ensures.gave in
          let all = g.met.P.Ports.goes_on c.args.ports.now c.loop-i.ports w.send.new.self i.sent.0 _ i.sent.1 did in
          let next = sent_next sends c.loop-i.i c.loop-i.failed 0 sent i.sent.0 _ (sym w.in-Some.ensures) i.sent.2 (sent_one sent) in
          record {
            few = let e = w.failed-is in omega (arith, e, i.few);
            sent = rw (w.ports-is, w.failed-is) (i.sent.0 ++ _, all, rw (add-zero c.loop-i.failed) at next);
          }
      | in_default w ↦ absurd (none_is_no_send sends c.loop-i.i more (sym w.in_default.ensures))
    ]
