use Rattle.std.proofs.Common.{refl}
use Rattle.pit_fib.proofs.KeptTables.{holds_the_living}
use Rattle.pit_fib.proofs.pit.Pit.arrive.Goals as goal

pub returns-then-is_full_for-clause-living : goal.returns-then-is_full_for-clause-living
returns-then-is_full_for-clause-living c = holds_the_living c.self.inside.rows.table _ c.self.invariant.0.alive refl
