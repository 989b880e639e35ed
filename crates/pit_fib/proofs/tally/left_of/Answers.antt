use Rattle.std.proofs.Common.{◌≡◌, ℕ, Bool, true, false, cond, get_or, sym, ap, ◌∙◌, arith}
use Rattle.pit_fib.specs.Route.{is_due}
use Rattle.pit_fib.proofs.Routes.{left_more, no_row}
use Rattle.pit_fib.proofs.tally.left_of.Goals as goal
use Rattle.pit_fib.proofs.tally.left_of.Goals.{then-not-is_due, else-not-is_due}

pub loop-row-preserved : goal.loop-row-preserved
loop-row-preserved c =
    let more = left_more c.args.now c.args.rows.now c.loop-row.row-index no_row c.loop-row-test.true in
    let was = c.loop-row.invariant in
    elim c.if-not-is_due.branch [
      | then-not-is_due w ↦
          let due : c.is_due.result ≡ false = w.if-not-is_due.true in
          let one : cond (is_due c.args.now (get_or c.args.rows.now c.loop-row.row-index no_row).1) 0 1 ≡ 1 = ap (λ (b : Bool). cond {A = ℕ} b 0 1) (sym c.is_due.ensures ∙ due) in
          (omega (arith, more, was.0, one, w.left-is), omega (arith, was.1, w.left-is))
      | else-not-is_due w ↦
          let due : c.is_due.result ≡ true = w.if-not-is_due.false in
          let one : cond (is_due c.args.now (get_or c.args.rows.now c.loop-row.row-index no_row).1) 0 1 ≡ 0 = ap (λ (b : Bool). cond {A = ℕ} b 0 1) (sym c.is_due.ensures ∙ due) in
          (omega (arith, more, was.0, one, w.left-is), omega (arith, was.1, w.left-is))
    ]
