use Rattle.std.proofs.Common.{take}
use Rattle.replay_guard.specs.Rows.{HasAll}
use Rattle.replay_guard.proofs.guard.has_all.Given as goal

abbrev pub invariant-loop-other : goal.invariant-loop-other
invariant-loop-other l = HasAll l.rows (take l.other-index l.others)
