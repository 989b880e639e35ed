use Rattle.std.proofs.Common.{◌≡◌, ◌≤◌, ◌++◌, take}
use Rattle.std.specs.List.{flat_map}
use Rattle.std.specs.Vec.{vec_capacity}
use Rattle.node_core.specs.Script.Writing.{send_text}
use Rattle.node_core.proofs.answer.put_send_lines.Given as goal

abbrev pub invariant-loop-i : goal.invariant-loop-i
invariant-loop-i l = record {
  text : l.text.items ≡ l.initial.text.items ++ flat_map send_text (take l.i l.outbox);
  capacity : vec_capacity l.initial.text ≤ vec_capacity l.text;
}
