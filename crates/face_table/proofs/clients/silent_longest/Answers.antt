use Rattle.std.proofs.Common.{arith}
use Rattle.face_table.proofs.Silent.{IsLongestOf-all}
use Rattle.face_table.proofs.clients.silent_longest.Goals as goal

pub returns-clause-longest : goal.returns-clause-longest
returns-clause-longest c = IsLongestOf-all c.args.clients.now c.loop-place.place c.loop-place.longest c.loop-place.invariant (omega arith)
