use Rattle.std.proofs.Common.{◌≡◌, ℕ, ◌+◌, false, ◌∙◌, sym, ap, arith, refl}
use Rattle.name_patterns.specs.Greedy.{at_most, has_place}
use Rattle.name_patterns.specs.Shown.{bounds_of}
use Rattle.name_patterns.proofs.Places.{no_place}
use Rattle.name_patterns.proofs.Counts.{takes, takes_some, takes_step, some_step, few_step, no_more, split_by_counts}
use Rattle.name_patterns.proofs.search.split_before.Goals as goal
use Rattle.name_patterns.proofs.search.split_before.Goals.{then-repeat-count, else-repeat-count}

pub returns-then-begins-eq0 : goal.returns-then-begins-eq0
returns-then-begins-eq0 c = λ atom atoms cs bounds are split len place low.
    let inv = c.loop-count.invariant in
    let some : (p : ℕ) → has_place c.if-repeat-count.split p ≡ takes_some c.args.passed c.args.after p c.args.repeat.least (c.loop-count.count + 1) =
    λ p. elim c.if-repeat-count.branch [
      | then-repeat-count w ↦ rw w.split-is (some_step c.args.passed c.args.after c.loop-count.begins c.loop-count.split c.args.repeat.least c.loop-count.count inv.0 inv.1 (omega arith) p)
      | else-repeat-count w ↦ rw w.split-is (few_step c.args.passed c.args.after c.loop-count.split c.args.repeat.least c.loop-count.count inv.1 (omega arith) p)
    ] in
    let none : (p : ℕ) → takes c.args.passed c.args.after p (c.loop-count.count + 1) ≡ false =
    λ p. sym (takes_step c.args.passed c.args.after c.loop-count.begins c.loop-count.count inv.0 p) ∙ rw c.if-begins-eq0.true (no_place p) in
    let all : at_most c.args.repeat.most 64 + 1 ≡ c.most_of-most.result + 1 = ap (λ (n : ℕ). n + 1) (sym c.most_of-most.ensures) in
    some place ∙ (no_more c.args.passed c.args.after c.args.repeat.least (c.loop-count.count + 1) (at_most c.args.repeat.most 64 + 1) none (omega (arith, all)) place
    ∙ split_by_counts atom atoms cs (bounds_of c.args.repeat) c.args.passed c.args.after place bounds are split len low)

pub returns : goal.returns
returns c = λ atom atoms cs bounds are split len place low.
    let all : c.loop-count.count ≡ at_most c.args.repeat.most 64 + 1 = omega (arith, c.most_of-most.ensures) in
    c.loop-count.invariant.1 place ∙ rw all (split_by_counts atom atoms cs (bounds_of c.args.repeat) c.args.passed c.args.after place bounds are split len low)

pub loop-count-preserved : goal.loop-count-preserved
loop-count-preserved c =
    let inv = c.loop-count.invariant in (
      takes_step c.args.passed c.args.after c.loop-count.begins c.loop-count.count inv.0,
      λ p. elim c.if-repeat-count.branch [
        | then-repeat-count w ↦ rw w.split-is (some_step c.args.passed c.args.after c.loop-count.begins c.loop-count.split c.args.repeat.least c.loop-count.count inv.0 inv.1 (omega arith) p)
        | else-repeat-count w ↦ rw w.split-is (few_step c.args.passed c.args.after c.loop-count.split c.args.repeat.least c.loop-count.count inv.1 (omega arith) p)
      ],
    )

pub loop-count-init : goal.loop-count-init
loop-count-init c = (λ p. refl, λ p. no_place p)
