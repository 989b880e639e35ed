use Rattle.std.proofs.Common.{◌≡◌, ◌+◌, length, drop, map, [], ◌∷◌, ◌++◌, refl, sym, ap, ◌∙◌, arith}
use Rattle.std.proofs.lemmas.List.{length-set}
use Rattle.ndn_names.specs.View.{components_left, field_of}
use Rattle.name_patterns.specs.Greedy.{run_of}
use Rattle.name_patterns.specs.Shown.{atom_of}
use Rattle.name_patterns.proofs.Rows.{drop_map, within_product}
use Rattle.name_patterns.proofs.Walk.{single_none, single_step, drop_next}
use Rattle.name_patterns.proofs.search.take_singles.Goals as goal
use Rattle.name_patterns.proofs.search.take_singles.Goals.{After-is_once}

cut : (c : After-is_once) → drop c.loop-i.i (map atom_of c.args.atoms.now) ≡ atom_of c.index-atoms-i.result ∷ drop (c.loop-i.i + 1) (map atom_of c.args.atoms.now)
cut c = drop_map atom_of c.args.atoms.now c.loop-i.i c.index-atoms-i.result (omega arith) c.index-atoms-i.is

pub returns-in_err-component-clause-none : goal.returns-in_err-component-clause-none
returns-in_err-component-clause-none c =
    let cs = components_left c.args.components.now in
    let w = c.loop-i.invariant.3 in
    let atom = atom_of c.index-atoms-i.result in
    let end : drop c.loop-i.i cs ≡ [] = sym c.loop-i.invariant.2 ∙ c.in_err-component.ensures.steps.0 in
    let no_run : run_of atom.test (drop c.loop-i.i cs) ≡ 0 = rw end refl in
    rw c.from_residual.ensures
    (single_none (map atom_of c.args.atoms.now) cs c.loop-i.i c.loop-i.starts w.0 atom w.1 (cut ((goal.at.returns-in_err-component-clause-none c).After-is_once))
    (c.is_once.ensures.0 c.if-not-is_once.false) no_run)

pub returns-then-not-passes-clause-none : goal.returns-then-not-passes-clause-none
returns-then-not-passes-clause-none c =
    let cs = components_left c.args.components.now in
    let w = c.loop-i.invariant.3 in
    let atom = atom_of c.index-atoms-i.result in
    let front : drop c.loop-i.i cs ≡ field_of c.in_ok-component.component ∷ components_left c.next.new.self = sym c.loop-i.invariant.2 ∙ c.in_ok-component.ensures.steps in
    let fails = sym c.passes.ensures.exact ∙ c.if-not-passes.true in
    let no_run : run_of atom.test (drop c.loop-i.i cs) ≡ 0 = rw (front, fails) refl in
    single_none (map atom_of c.args.atoms.now) cs c.loop-i.i c.loop-i.starts w.0 atom w.1 (cut ((goal.at.returns-then-not-passes-clause-none c).After-is_once))
    (c.is_once.ensures.0 c.if-not-is_once.false) no_run

pub loop-i-preserved : goal.loop-i-preserved
loop-i-preserved c =
    let cs = components_left c.args.components.now in
    let w = c.loop-i.invariant.3 in
    let front : drop c.loop-i.i cs ≡ field_of c.in_ok-component.component ∷ components_left c.next.new.self = sym c.loop-i.invariant.2 ∙ c.in_ok-component.ensures.steps in
    let next = drop_next cs c.loop-i.i (field_of c.in_ok-component.component) (components_left c.next.new.self) front in (
      length-set c.loop-i.starts _ _ ∙ c.loop-i.invariant.0,
      omega (arith, c.passes.ensures.counted, c.loop-i.invariant.1),
      next.0,
      (
        w.0 ++ 1 ∷ [],
        single_step (map atom_of c.args.atoms.now) cs c.loop-i.i c.loop-i.starts w.0 (atom_of c.index-atoms-i.result) (field_of c.in_ok-component.component) w.1
            (cut ((goal.at.loop-i-preserved c).After-is_once)) (front ∙ ap (λ rest. field_of c.in_ok-component.component ∷ rest) next.0)
            (omega (arith, c.loop-i.invariant.0)) (omega (arith, next.1)) (c.is_once.ensures.0 c.if-not-is_once.false) (sym c.passes.ensures.exact ∙ c.if-not-passes.false),
      ),
      omega (arith, c.passes.ensures.counted, c.loop-i.invariant.4),
    )

pub returns-then-not-passes-clause-cost : goal.returns-then-not-passes-clause-cost
returns-then-not-passes-clause-cost c =
    let cs = components_left c.args.components.now in
    let front : drop c.loop-i.i cs ≡ field_of c.in_ok-component.component ∷ components_left c.next.new.self = sym c.loop-i.invariant.2 ∙ c.in_ok-component.ensures.steps in
    let next = drop_next cs c.loop-i.i (field_of c.in_ok-component.component) (components_left c.next.new.self) front in
    omega (arith, c.passes.ensures.counted, c.loop-i.invariant.1, within_product (c.loop-i.i + 1) (length c.args.atoms.now) (length cs) (omega arith) (omega (arith, next.1)))

pub returns-in_err-component-clause-cost : goal.returns-in_err-component-clause-cost
returns-in_err-component-clause-cost c =
    let cs = components_left c.args.components.now in
    let w = c.loop-i.invariant.3 in
    rw c.from_residual.ensures (omega (arith, c.loop-i.invariant.1, within_product c.loop-i.i (length c.args.atoms.now) (length cs) (omega arith) w.1.fits))
