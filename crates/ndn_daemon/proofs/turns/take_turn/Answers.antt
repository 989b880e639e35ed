use Rattle.ndn_daemon.proofs.Gathered.{Writes-cut, front_of_writing}
use Rattle.ndn_daemon.proofs.turns.take_turn.Goals as goal

pub returns-then-is_unwritten-clause-stopped : goal.returns-then-is_unwritten-clause-stopped
returns-then-is_unwritten-clause-stopped g c =
    let turn = rw (c.is_unwritten.ensures.0 (c.if-is_unwritten.true)) at c.in_ok-turn.ensures.turn in (
      turn.0,
      turn.1,
      (turn.2.0, Writes-cut _ _ _ _ _ c.in_ok-turn.ensures.text (front_of_writing c.write_out-written.result _ _ _ c.write_out-written.ensures.done c.write_out-written.ensures.cut)),
    )
