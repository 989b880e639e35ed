use Rattle.std.proofs.Common.{◌≡◌, ℕ, ◌<◌, cond, List, [], ◌∷◌, length, refl, ap, sym, ◌∙◌, subst, arith}
use lib.Dec.{T}
use Rattle.std.specs.Prelude.{Option, None, Some, IsSome}
use Rattle.std.specs.List.{slice_get}
use Rattle.std.specs.Ordering.{is_eq, nat_cmp, ordering_then}
use Rattle.std.specs.Cmp.Lexicographic.{slice_cmp}
use Rattle.std.proofs.lemmas.Bool.{leb-true, leb-false}
use Rattle.std.specs.declared.cmp.Ordering.TheVariants.{Less}
use Rattle.std.specs.Cmp.{tied_itself, nat_cmp_is}
use Rattle.std.specs.FinMap.{find, get, is_sorted, get-from_sorted}
use Rattle.ndn_tlv.specs.Element.{Field}
use Rattle.ndn_names.specs.Order.{component_cmp}
use Rattle.ndn_names.specs.Key.{component_cmp-total}
use Rattle.ndn_names.proofs.Rows.{first_of}
use Rattle.name_trie.proofs.Flat.{below_less}
use Rattle.name_trie.proofs.Revised.{find_below}
use Rattle.name_trie.specs.Rows.{items_of}
use Rattle.name_trie.proofs.children.Children.has_up_to.Goals as goal

lower_kind : (c d : Field) → c.0 < d.0 → component_cmp c d ≡ Less
lower_kind c d lt = ap (λ o. ordering_then o (ordering_then (nat_cmp (length c.1) (length d.1)) (slice_cmp nat_cmp c.1 d.1))) (sym (nat_cmp_is c.0 d.0 Less lt))

no_rows : (rows : List (Field × ℕ)) → None ≡ slice_get rows 0 → rows ≡ []
no_rows [] first = refl
no_rows (x ∷ rows) first = absurd cc

-- a component whose type is less than the type of the first row's component is not found
not_found : (rows : List (Field × ℕ)) (row : Field × ℕ) → Some row ≡ slice_get rows 0 → T (is_sorted component_cmp rows) → (c : Field) → c.0 < row.0.0 → find component_cmp c rows ≡ None
not_found [] row first sorted c lt = absurd cc
not_found (x ∷ rows) row first sorted c lt =
    let one : row ≡ x = cc in
    let less : component_cmp c x.0 ≡ Less = lower_kind c x.0 (subst (λ (r : Field × ℕ). c.0 < r.0.0) one lt) in
    ap (λ o. cond (is_eq o) (Some x.1) (find component_cmp c rows)) less
    ∙ find_below component_cmp c rows (below_less component_cmp-total c x.0 rows less (first_of _ _ sorted))

found : (rows : List (Field × ℕ)) (row : Field × ℕ) → Some row ≡ slice_get rows 0 → find component_cmp row.0 rows ≡ Some row.1
found [] row first = absurd cc
found (x ∷ rows) row first =
    let one : row ≡ x = cc in
    ap (λ (r : Field × ℕ). find component_cmp r.0 (x ∷ rows)) one
    ∙ ap (λ o. cond (is_eq o) (Some x.1) (find component_cmp x.0 rows)) (tied_itself component_cmp-total x.0) ∙ ap (λ (r : Field × ℕ). Some r.1) (sym one)

pub returns-in-Some-clause-yes : goal.returns-in-Some-clause-yes
returns-in-Some-clause-yes c = λ is.
    let row : Field × ℕ = c.in-Some.row.now in
    let rows = items_of c.self.inside.rows in
    let first : Some row ≡ slice_get rows 0 = c.in-Some.ensures.value ∙ ap (λ l. slice_get l 0) c.as_slice.ensures in
    let kind : c.view.result.kind ≡ row.0.0 = ap (λ (f : Field). f.0) c.view.ensures in
    let at : get c.args.self.now row.0 ≡ Some row.1 =
    ap (λ m. get m row.0) (sym c.self.view_is) ∙ get-from_sorted component_cmp rows row.0 c.self.invariant ∙ found rows row first in
    (row.0, omega (arith, kind, leb-true c.view.result.kind c.args.kind is), subst (λ (o : Option ℕ). IsSome o) (sym at) refl)

pub returns-in-Some-clause-no : goal.returns-in-Some-clause-no
returns-in-Some-clause-no c = λ is d le.
    let row : Field × ℕ = c.in-Some.row.now in
    let rows = items_of c.self.inside.rows in
    let first : Some row ≡ slice_get rows 0 = c.in-Some.ensures.value ∙ ap (λ l. slice_get l 0) c.as_slice.ensures in
    let kind : c.view.result.kind ≡ row.0.0 = ap (λ (f : Field). f.0) c.view.ensures in
    ap (λ m. get m d) (sym c.self.view_is) ∙ get-from_sorted component_cmp rows d c.self.invariant
    ∙ not_found rows row first c.self.invariant d (omega (arith, le, kind, leb-false c.view.result.kind c.args.kind is))

pub returns-in-None-clause-no : goal.returns-in-None-clause-no
returns-in-None-clause-no c = λ is d le.
    let rows = items_of c.self.inside.rows in
    let first : None ≡ slice_get rows 0 = c.in-None.ensures.value ∙ ap (λ l. slice_get l 0) c.as_slice.ensures in
    ap (λ m. get m d) (sym c.self.view_is) ∙ get-from_sorted component_cmp rows d c.self.invariant ∙ ap (find component_cmp d) (no_rows rows first)
