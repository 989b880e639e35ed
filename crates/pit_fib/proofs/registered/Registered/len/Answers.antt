use Rattle.std.proofs.Common.{length, ap, sym, ◌∙◌}
use Rattle.std.specs.FinMap.{len-entries}
use Rattle.pit_fib.proofs.registered.Registered.len.Goals as goal

pub returns : goal.returns
returns c = ap length c.rows.ensures.rows ∙ sym (len-entries c.args.self.now)
