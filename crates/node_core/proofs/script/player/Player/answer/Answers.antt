use Rattle.std.proofs.Common.{◌+◌, refl}
use Rattle.forwarder.specs.Event.{plain}
use Rattle.node_core.specs.Script.Writing.{lines_text, result_text}
use Rattle.node_core.specs.Script.Play.{Place, PlaysEvent, place_of}
use Rattle.node_core.proofs.Playing.{PlaysEvent-from_step}
use Rattle.node_core.proofs.script.player.Player.answer.Goals as goal

pub returns-clause-handled : goal.returns-clause-handled
returns-clause-handled c =
    let from = place_of c.args.self.now in
    let to : Place = record { node = c.step-outcome.new.self; lines = from.lines; events = from.events + 1 } in
    let text = lines_text (from.events + 1) (result_text c.rules.result.now c.step-outcome.result) c.step-outcome.new.outbox in
    let plays : PlaysEvent (plain c.lend-event.result) from to text = PlaysEvent-from_step from to (plain c.lend-event.result) c.step-outcome.result c.rules.result.now c.clear.new.self c.step-outcome.new.outbox c.clear.ensures c.step-outcome.ensures.answered c.step-outcome.ensures.memory c.step-outcome.ensures.without_memory (c.step-outcome.ensures.octets, c.step-outcome.ensures.keys) c.rules.ensures.exact refl refl in
    (text, rw (c.lend-event.ensures (λ r. r.rules) (λ r. r.keys)) at plays, c.in-Ok.ensures.ok)
