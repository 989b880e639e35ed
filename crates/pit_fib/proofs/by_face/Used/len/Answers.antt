use Rattle.std.proofs.Common.{length, ap, sym, ◌∙◌}
use Rattle.std.specs.FinMap.{len-entries}
use Rattle.pit_fib.proofs.by_face.Used.len.Goals as goal

pub returns-clause-exact : goal.returns-clause-exact
returns-clause-exact c = ap length c.as_slice.ensures.rows ∙ sym (len-entries c.args.self.now)
