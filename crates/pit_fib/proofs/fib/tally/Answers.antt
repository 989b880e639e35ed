use Rattle.std.proofs.Common.{refl, sym, subst}
use Rattle.pit_fib.specs.declared.tally.Tally.{Tally}
use Rattle.pit_fib.specs.Limits.{IsTallied}
use Rattle.pit_fib.proofs.FibTally.{tally_is}
use Rattle.pit_fib.proofs.fib.tally.Goals as goal

pub returns : goal.returns
returns c =
    subst (λ (t : Tally). IsTallied c.args.entries.now.table t.count t.next_due) (sym c.see_all.ensures)
    (tally_is c.args.entries.now.table (record { count = 0; next_due = 18446744073709551615 }) refl c.requires)
