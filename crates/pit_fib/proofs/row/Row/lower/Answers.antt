use Rattle.std.proofs.Common.{arith}
use Rattle.pit_fib.proofs.RecordTallies.{none_asked}
use Rattle.pit_fib.proofs.Rows.{no_slots}
use Rattle.pit_fib.proofs.row.Row.lower.Goals as goal

pub returns-in_default-clause-lowered : goal.returns-in_default-clause-lowered
returns-in_default-clause-lowered c = λ f.
    let none = none_asked c.args.self.now (no_slots c.self.inside.slots c.args.self.now c.self.view_is c.in_default.is) f in
    omega (arith, none)
