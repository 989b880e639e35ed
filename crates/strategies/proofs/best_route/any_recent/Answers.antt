use Rattle.std.proofs.Common.{rules, ℕ, ◌≤◌, length, true, false, sym, ap, ◌∙◌, arith}
use Rattle.std.proofs.lemmas.List.{drop_all}
use Rattle.std.specs.List.{list_any}
use Rattle.std.specs.FinMap.{entries, len-entries}
use Rattle.strategies.specs.Selection.{is_recent}
use Rattle.strategies.proofs.Places.{any_here, any_past}
use Rattle.strategies.proofs.best_route.any_recent.Goals as goal
use Rattle.strategies.proofs.best_route.any_recent.Goals.{in_default-via-in-None-1, in_default-via-in-Some+else-is_recent}

pub returns-in-loop-i : goal.returns-in-loop-i
returns-in-loop-i c =
    let test = λ (e : ℕ × ℕ). is_recent c.args.now e.1 in
    let found = any_here test (entries c.args.used.now) c.loop-i.i (c.in-Some.field-0-0, c.in-Some.time) true (sym c.in-Some.ensures) (sym c.is_recent.ensures ∙ c.if-is_recent.true) in
    sym (c.loop-i.invariant ∙ found)

pub loop-i-preserved : goal.loop-i-preserved
loop-i-preserved c =
    let test = λ (e : ℕ × ℕ). is_recent c.args.now e.1 in
    let rows = entries c.args.used.now in
    elim c.in_default.branch [
      | in_default-via-in-None-1 w ↦ c.loop-i.invariant ∙ any_past test rows c.loop-i.i (search rules)
      | in_default-via-in-Some+else-is_recent w ↦
          c.loop-i.invariant ∙ any_here test rows c.loop-i.i (w.in-Some.field-0-0, w.in-Some.time) false (sym w.in-Some.ensures) (sym w.is_recent.ensures ∙ w.if-is_recent.false)
    ]

pub returns : goal.returns
returns c =
    let test = λ (e : ℕ × ℕ). is_recent c.args.now e.1 in
    let rows = entries c.args.used.now in
    let past : length rows ≤ c.loop-i.i = omega (arith, c.len-i-end.ensures.exact, len-entries c.args.used.now, c.loop-i-test.false) in
    sym (c.loop-i.invariant ∙ ap (list_any test) (drop_all c.loop-i.i rows past))
