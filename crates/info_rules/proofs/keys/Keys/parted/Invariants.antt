use Rattle.std.proofs.Common.{take}
use Rattle.info_rules.proofs.Parted.{Lack}
use Rattle.info_rules.proofs.keys.Keys.parted.Given as goal

abbrev pub invariant-loop-i : goal.invariant-loop-i
invariant-loop-i l = Lack l.self.depth (take l.i l.self.entries.now)
