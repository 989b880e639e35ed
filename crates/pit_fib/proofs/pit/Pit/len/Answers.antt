use Rattle.std.proofs.Common.{ap, sym, ◌∙◌}
use Rattle.std.specs.Prelude.{None}
use Rattle.std.specs.FinMap.{len}
use Rattle.pit_fib.specs.Pit.{PitState}
use Rattle.pit_fib.proofs.KeptTables.{holds_the_living, len-pending}
use Rattle.pit_fib.proofs.pit.Pit.len.Goals as goal

pub returns-clause-exact : goal.returns-clause-exact
returns-clause-exact c = c.keys.ensures ∙ c.tally.ensures None ∙ sym (len-pending c.self.inside.rows.table) ∙ ap (λ (s : PitState). len s.pending) c.self.view_is

pub returns-clause-living : goal.returns-clause-living
returns-clause-living c = holds_the_living c.self.inside.rows.table c.args.self.now.pending c.self.invariant.0.alive (ap (λ (s : PitState). s.pending) c.self.view_is)
