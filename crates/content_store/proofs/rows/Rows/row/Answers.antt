use Rattle.std.proofs.Common.{ℕ, ◌<◌, List, length, get_or, ap, sym, ◌∙◌, subst, arith}
use Rattle.std.specs.Prelude.{IsSome}
use Rattle.slab.specs.Slab.{get}
use Rattle.content_store.specs.Rows.{Placed}
use Rattle.content_store.proofs.Shown.{length-shown, shown_at, all_there}
use Rattle.content_store.proofs.rows.Rows.row.Goals as goal
use Rattle.content_store.proofs.rows.Rows.row.Goals.{After-get}

pub get-requires : goal.get-requires
get-requires c =
    let len = length-shown (get c.self.inside.entries) c.self.inside.order c.self.invariant.0.there in
    omega (arith, ap length c.self.view_is)

inside : (c : After-get) → c.args.at < length c.self.inside.order
inside c =
    let len = length-shown (get c.self.inside.entries) c.self.inside.order c.self.invariant.0.there in
    let lt = c.requires in
    omega (arith, ap length c.self.view_is)

pub index-requires : goal.index-requires
index-requires c =
    let b = (goal.at.index-requires c).After-get in
    subst (λ (p : ℕ). IsSome (get c.self.inside.entries p)) (sym c.get.ensures) (all_there (λ p. IsSome (get c.self.inside.entries p)) c.self.inside.order c.args.at c.self.invariant.0.there (inside b))

pub returns : goal.returns
returns c =
    let b = (goal.at.returns c).After-get in
    let at = ap (get c.self.inside.entries) (sym c.get.ensures) ∙ c.index.ensures in
    λ d. ap (λ (rows : List Placed). (get_or rows c.args.at d).1) (sym c.self.view_is)
    ∙ ap (λ (r : Placed). r.1) (shown_at (get c.self.inside.entries) c.self.inside.order c.args.at c.index.result.now c.self.invariant.0.there (inside b) at d)
