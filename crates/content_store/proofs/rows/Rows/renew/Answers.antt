use Rattle.std.proofs.Common.{◌≡◌, ℕ, ◌<◌, List, length, get_or, refl, ap, sym, subst, ◌∙◌, arith}
use Rattle.std.specs.Prelude.{IsSome, nat_eq}
use Rattle.std.specs.Map.{set_value}
use Rattle.slab.specs.Slab.{get, with_value}
use Rattle.slab.proofs.SlabLemmas.{Updates-with_value}
use Rattle.content_store.specs.declared.rows.Row.{Row}
use Rattle.content_store.specs.Store.{full_name_of}
use Rattle.content_store.specs.Rows.{Placed, shown, IsRows}
use Rattle.content_store.proofs.Shown.{length-shown, shown_at, all_there, valid_shown}
use Rattle.content_store.proofs.Edits.{valued}
use Rattle.content_store.proofs.Bounds.{one_renewed}
use Rattle.content_store.proofs.rows.Rows.renew.Goals as goal
use Rattle.content_store.proofs.rows.Rows.renew.Goals.{After-get-place, After-index_mut, After-renew}

inside : (c : After-get-place) → c.args.at < length c.self.inside.order
inside c =
    let len = length-shown (get c.self.inside.entries) c.self.inside.order c.self.invariant.0.there in
    let lt = c.requires in
    omega (arith, ap length c.self.view_is)

stands : (c : After-get-place) → c.get-place.result ≡ get_or c.self.inside.order c.args.at 0
stands c = c.get-place.ensures

pub get-place-requires : goal.get-place-requires
get-place-requires c =
    let len = length-shown (get c.self.inside.entries) c.self.inside.order c.self.invariant.0.there in
    let lt = c.requires in
    omega (arith, ap length c.self.view_is)

there : (c : After-get-place) → IsSome (get c.self.inside.entries c.get-place.result)
there c = subst (λ (p : ℕ). IsSome (get c.self.inside.entries p)) (sym (stands c)) (all_there (λ p. IsSome (get c.self.inside.entries p)) c.self.inside.order c.args.at c.self.invariant.0.there (inside c))

pub index_mut-requires : goal.index_mut-requires
index_mut-requires c = there (goal.at.index_mut-requires c).After-get-place

row_at : (c : After-index_mut) → (d : Placed) → get_or c.args.self.now c.args.at d ≡ (c.get-place.result, c.index_mut.result.now)
row_at c d =
    let order = c.self.inside.order in
    let len = length-shown (get c.self.inside.entries) order c.self.invariant.0.there in
    let lt = c.requires in
    let within : c.args.at < length order = omega (arith, ap length c.self.view_is) in
    let place : c.get-place.result ≡ get_or order c.args.at 0 = c.get-place.ensures in
    let at = ap (get c.self.inside.entries) (sym place) ∙ c.index_mut.ensures.value in
    ap (λ (rows : List Placed). get_or rows c.args.at d) (sym c.self.view_is)
    ∙ shown_at (get c.self.inside.entries) order c.args.at c.index_mut.result.now c.self.invariant.0.there within at d ∙ (λ i. (sym place i, c.index_mut.result.now))

abbrev new_row : After-renew → Row
new_row c = record { entry = c.renew.new.self; serial = c.index_mut.result.now.serial }

whole : (c : After-renew) → (shown (get (with_value c.self.inside.entries c.get-place.result (new_row c))) c.self.inside.order
    ≡ set_value (nat_eq c.get-place.result) (shown (get c.self.inside.entries) c.self.inside.order) (new_row c))
    × IsRows (get (with_value c.self.inside.entries c.get-place.result (new_row c))) c.self.inside.order
whole c =
    let some : IsSome (get c.self.inside.entries c.get-place.result) = subst IsSome (sym c.index_mut.ensures.value) refl in
    let wrote = Updates-with_value c.self.inside.entries c.get-place.result (new_row c) some in
    valued (get c.self.inside.entries) (get (with_value c.self.inside.entries c.get-place.result (new_row c))) c.self.inside.order c.get-place.result c.index_mut.result.now (new_row c)
    c.self.invariant.0 c.index_mut.ensures.value wrote.changed wrote.others (ap full_name_of c.renew.ensures)

pub invariant_of-self : goal.invariant_of-self
invariant_of-self c =
    let r = (goal.at.invariant_of-self c).After-renew in
    let i = (goal.at.invariant_of-self c).After-get-place in
    let some : IsSome (get c.self.inside.entries c.get-place.result) = subst IsSome (sym c.index_mut.ensures.value) refl in
    let wrote = Updates-with_value c.self.inside.entries c.get-place.result (new_row r) some in
    let follows =
    one_renewed (get c.self.inside.entries) (get (with_value c.self.inside.entries c.get-place.result (new_row r))) c.self.inside.order c.args.at c.get-place.result c.fresh_until.result
    c.index_mut.result.now (new_row r) c.self.invariant.0 (whole r).1 (inside i) (sym (stands i)) c.index_mut.ensures.value wrote.changed wrote.others (omega arith) in
    ((whole r).1, c.follow.ensures _ _ follows c.self.invariant.1)

pub returns-clause-rows : goal.returns-clause-rows
returns-clause-rows c =
    let b = (goal.at.returns-clause-rows c).After-index_mut in
    let r = (goal.at.returns-clause-rows c).After-renew in
    λ d. (whole r).0 ∙ ap (λ (rows : List Placed). set_value (nat_eq c.get-place.result) rows (new_row r)) c.self.view_is
    ∙ (λ i. set_value (nat_eq c.get-place.result) c.args.self.now (record { entry = c.renew.ensures i; serial = c.index_mut.result.now.serial }))
    ∙ (λ i. set_value (nat_eq (sym (row_at b d) i).0) c.args.self.now
    (record { entry = record (sym (row_at b d) i).1.entry { freshness = c.args.freshness; arrival = c.args.arrival }; serial = (sym (row_at b d) i).1.serial }))

pub returns-clause-valid : goal.returns-clause-valid
returns-clause-valid c =
    let r = (goal.at.returns-clause-valid c).After-renew in
    valid_shown (get (with_value c.self.inside.entries c.get-place.result (new_row r))) c.self.inside.order (whole r).1
