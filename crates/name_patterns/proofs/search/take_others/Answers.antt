use Rattle.std.proofs.Common.{◌≡◌, ◌+◌, [], ◌∷◌, ◌++◌, map, drop, Some, sym, ◌∙◌, ap, arith}
use Rattle.std.proofs.lemmas.List.{length-map, length-set}
use Rattle.ndn_names.specs.View.{components}
use Rattle.name_patterns.specs.declared.atom.Atom.{Atom}
use Rattle.name_patterns.specs.Greedy.{first_count}
use Rattle.name_patterns.specs.Shown.{bounds_of, atom_of}
use Rattle.name_patterns.proofs.Rows.{none_there}
use Rattle.name_patterns.proofs.Splits.{nothing_first}
use Rattle.name_patterns.proofs.Walk.{atom_row, taken_none, walk_step}
use Rattle.name_patterns.proofs.search.take_others.Goals as goal
use Rattle.name_patterns.proofs.search.take_others.Goals.{After-first_count}

pub returns-then-not-fill-clause-none : goal.returns-then-not-fill-clause-none
returns-then-not-fill-clause-none c =
    let cs = components c.args.name in
    let all = map atom_of c.args.atoms.now in
    let w = c.requires.taken in
    taken_none all cs c.args.first c.args.first c.args.starts.now w.0 w.1
    (nothing_first (drop c.args.first all) (drop c.args.first cs) (none_there (drop c.args.first all) cs c.args.first (c.fill.ensures.none c.if-not-fill.true) w.1.fits))

pub first_count-requires : goal.first_count-requires
first_count-requires c =
    let row = atom_row atom_of c.args.atoms.now (components c.args.name) c.fill.new.table c.args.first c.loop-i.i c.index-atoms-i.result (record { passed = 0; split = 0 })
    (c.fill.ensures.filled c.if-not-fill.false) (omega arith) c.loop-i-test.true c.index-atoms-i.is in
    (row.small, omega (arith, c.loop-i.invariant.1.1.fits, c.requires.len))

first : (c : After-first_count) → c.first_count.result ≡ first_count (drop c.loop-i.i (map atom_of c.args.atoms.now)) (drop c.loop-i.place (components c.args.name))
first c =
    let r = atom_row atom_of c.args.atoms.now (components c.args.name) c.fill.new.table c.args.first c.loop-i.i c.index-atoms-i.result (record { passed = 0; split = 0 })
    (c.fill.ensures.filled c.if-not-fill.false) (omega arith) c.loop-i-test.true c.index-atoms-i.is in
    rw r.cut (c.first_count.ensures (atom_of c.index-atoms-i.result) (drop (c.loop-i.i + 1) (map atom_of c.args.atoms.now)) (components c.args.name) (ap (λ (atom : Atom). bounds_of atom.repeat) (sym c.index-atoms-i.is)) r.passed r.rest c.loop-i.invariant.1.1.fits)

pub returns-in_err-count-clause-none : goal.returns-in_err-count-clause-none
returns-in_err-count-clause-none c =
    let w = c.loop-i.invariant.1 in
    let cs = components c.args.name in
    let all = map atom_of c.args.atoms.now in
    let is = first (goal.at.returns-in_err-count-clause-none c).After-first_count in
    rw c.from_residual.ensures (taken_none all cs c.loop-i.i c.loop-i.place c.loop-i.starts w.0 w.1
    (nothing_first (drop c.loop-i.i all) (drop c.loop-i.place cs) (sym is ∙ c.in_err-count.was)))

pub loop-i-preserved : goal.loop-i-preserved
loop-i-preserved c =
    let w = c.loop-i.invariant.1 in
    let is = first (goal.at.loop-i-preserved c).After-first_count in
    let step = walk_step (map atom_of c.args.atoms.now) (components c.args.name) c.loop-i.i c.loop-i.place c.loop-i.starts w.0 c.from-place.result w.1
    (omega (arith, length-map c.args.atoms.now atom_of)) (omega (arith, c.loop-i.invariant.0)) (sym is ∙ (c.in_ok-count.was ∙ ap Some (sym c.from-place.ensures))) in
    (length-set c.loop-i.starts _ _ ∙ c.loop-i.invariant.0, (w.0 ++ c.from-place.result ∷ [], step))
