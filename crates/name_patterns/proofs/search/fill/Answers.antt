use Rattle.std.proofs.Common.{◌≡◌, ℕ, ◌+◌, ◌-◌, [], ◌∷◌, length, map, drop, ◌∙◌, sym, refl, arith}
use Rattle.std.proofs.lemmas.List.{length-map, length-set}
use Rattle.ndn_names.specs.View.{components}
use Rattle.name_patterns.specs.declared.search.Row.{Row}
use Rattle.name_patterns.specs.Greedy.{AreSplit, IsRow}
use Rattle.name_patterns.specs.Shown.{atom_of}
use Rattle.name_patterns.proofs.Places.{first_same, first_other}
use Rattle.name_patterns.proofs.Rows.{last_split, after_all, row_after_all, set_same, drop_map, table_step, times_step, none_from, product_le}
use Rattle.name_patterns.proofs.search.fill.Goals as goal

pub loop-i-init : goal.loop-i-init
loop-i-init c =
    let cs = components c.args.name in
    let last : AreSplit [] cs _ = last_split cs c.args.len _ (sym c.requires.len.0) (first_same c.args.len (omega (arith, c.requires.len.1)))
    (λ place apart. first_other c.args.len place (omega (arith, c.requires.len.1)) apart) in (
      after_all atom_of c.args.atoms.now cs _ last,
      (λ k from low.
          let k_is : k ≡ length c.args.atoms.now = omega arith in
          rw (k_is, set_same c.args.table.now (length c.args.atoms.now) _ (omega arith)) (row_after_all atom_of c.args.atoms.now cs _ last)),
      length-set c.args.table.now _ _ ∙ c.told-table,
      omega (arith, c.requires.few),
      omega arith,
      omega arith,
      omega arith,
    )

pub loop-i-preserved : goal.loop-i-preserved
loop-i-preserved c =
    let inv = c.loop-i.invariant in
    let at : ℕ = c.loop-i.i - 1 in
    let cs = components c.args.name in
    let all = map atom_of c.args.atoms.now in
    let atom = atom_of c.index-atoms-i.result in
    let i_is : c.loop-i.i ≡ at + 1 = omega arith in
    let cut : drop at all ≡ atom ∷ drop (at + 1) all =
    drop_map atom_of c.args.atoms.now at c.index-atoms-i.result (omega arith) c.index-atoms-i.is in
    let later : AreSplit (drop (at + 1) all) cs c.loop-i.split = rw i_is at inv.0 in
    let split : AreSplit (atom ∷ drop (at + 1) all) cs c.split_before-split.result =
    c.split_before-split.ensures atom (drop (at + 1) all) cs refl c.passed-passed.ensures.exact later (omega (arith, c.requires.len.0, c.requires.len.1)) in
    let row : Row = record { passed = c.passed-passed.result; split = c.split_before-split.result } in
    let here : IsRow (drop at all) cs row = rw cut (c.passed-passed.ensures.exact, c.passed-passed.ensures.small, split) in (
      rw cut split,
      table_step (λ k row. IsRow (drop k all) cs row) c.loop-i.table at (length c.args.atoms.now) row (omega arith) here
          (λ k from low. inv.1 k (omega arith) low),
      length-set c.loop-i.table _ _ ∙ inv.2,
      omega arith,
      omega (arith, c.passed-passed.ensures.cost, inv.4, c.requires.len.0, c.requires.len.1),
      omega (arith, c.passed-passed.ensures.cost, inv.5, times_step c.loop-i.i at (length cs) i_is),
      omega (arith, c.passed-passed.ensures.counted, inv.6),
    )

pub returns-then-split-eq0-clause-none : goal.returns-then-split-eq0-clause-none
returns-then-split-eq0-clause-none c = λ _.
    let at : ℕ = c.loop-i.i - 1 in
    let cs = components c.args.name in
    let all = map atom_of c.args.atoms.now in
    let atom = atom_of c.index-atoms-i.result in
    let i_is : c.loop-i.i ≡ at + 1 = omega arith in
    let cut : drop at all ≡ atom ∷ drop (at + 1) all =
    drop_map atom_of c.args.atoms.now at c.index-atoms-i.result (omega arith) c.index-atoms-i.is in
    let later : AreSplit (drop (at + 1) all) cs c.loop-i.split = rw i_is at c.loop-i.invariant.0 in
    let split : AreSplit (atom ∷ drop (at + 1) all) cs c.split_before-split.result =
    c.split_before-split.ensures atom (drop (at + 1) all) cs refl c.passed-passed.ensures.exact later (omega (arith, c.requires.len.0, c.requires.len.1)) in
    let none : AreSplit (atom ∷ drop (at + 1) all) cs 0 = rw c.if-split-eq0.true at split in
    none_from all cs c.args.first at (omega arith) (omega (arith, length-map c.args.atoms.now atom_of)) (rw cut none)

pub returns-clause-cost : goal.returns-clause-cost
returns-clause-cost c =
    omega (arith, c.loop-i.invariant.5, product_le c.args.first c.loop-i.i (length (components c.args.name)) c.loop-i.invariant.3)
