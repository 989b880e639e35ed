use Rattle.std.proofs.Common.{◌++◌, ◌∙◌, sym, ap, List, ℕ, length, arith, add-one, take, ◌<◌}
use Rattle.std.specs.List.{flat_map}
use Rattle.node_core.specs.Script.Writing.{send_text}
use Rattle.std.proofs.lemmas.Result.{err_from_is_err_and}
use Rattle.node_core.proofs.Appending.{appended, flat_map-take_next, none_is_no_send, puts_refused}
use Rattle.node_core.proofs.answer.put_send_lines.Goals as goal
use Rattle.node_core.proofs.answer.put_send_lines.Goals.{in-Some+in_ok-put_send, in_default}

pub loop-i-preserved : goal.loop-i-preserved
loop-i-preserved c =
    let more : c.loop-i.i < length c.args.outbox.now = omega arith in
    let i = c.loop-i.invariant in
    elim c.match-sent.branch [
      | in-Some+in_ok-put_send w ↦
          let next = flat_map-take_next send_text c.args.outbox.now c.loop-i.i (w.in-Some.face, w.in-Some.octets.now) (sym w.in-Some.ensures) in
          let sent = send_text (w.in-Some.face, w.in-Some.octets.now) in
          let e = w.in_ok-put_send.ensures in
          record {
            text =
                rw (w.text-is, add-one)
                (appended w.put_send.new.text.items c.loop-i.text.items sent c.args.text.now.items (flat_map send_text (take c.loop-i.i c.args.outbox.now)) e.ok i.text
                ∙ ap (λ (t : List ℕ). c.args.text.now.items ++ t) (sym next));
            capacity = rw w.text-is (omega (arith, i.capacity, e.capacity));
          }
      | in_default w ↦ absurd (none_is_no_send c.args.outbox.now c.loop-i.i more (sym w.in_default.ensures))
    ]

pub returns-in_err-put_send : goal.returns-in_err-put_send
returns-in_err-put_send c =
    let p = err_from_is_err_and c.from_residual.result c.from_residual.ensures.1 in
    let i = c.loop-i.invariant in
    rw (p.1, p.2)
    (puts_refused send_text c.args.outbox.now c.loop-i.i (c.in-Some.face, c.in-Some.octets.now) c.args.text.now c.loop-i.text c.put_send.new.text c.in_err-put_send.field-0.0 (sym c.in-Some.ensures) i.text i.capacity c.in_err-put_send.ensures)
