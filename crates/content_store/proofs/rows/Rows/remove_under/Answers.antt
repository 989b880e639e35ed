use Rattle.std.proofs.Common.{◌≡◌, ◌-◌, ℕ, List, sym, ap, subst, ◌∙◌, arith}
use Rattle.slab.specs.Slab.{get}
use Rattle.ndn_names.specs.View.{components}
use Rattle.content_store.specs.declared.blocks.Change.TheVariants.{Removed}
use Rattle.content_store.specs.Blocks.{Follows}
use Rattle.content_store.specs.Rows.{IsRows, Placed, shown}
use Rattle.content_store.proofs.Shown.{length-shown}
use Rattle.content_store.specs.Uses.{Sound, TakesUnder, without_range}
use Rattle.content_store.proofs.rows.Rows.remove_under.Goals as goal

pub invariant_of-self : goal.invariant_of-self
invariant_of-self c =
    let h = get c.self.inside.entries in
    let f = get c.remove_under-end.new.entries in
    let order = c.self.inside.order in
    let start = c.place_for-start.result in
    let end = c.remove_under-end.result in
    let rows = shown h order in
    let out = c.remove_under-end.ensures in
    let le = out.from in
    let within = out.within in
    let valid : IsRows f c.cut.new.self = subst (λ (l : List ℕ). IsRows f l) (sym c.cut.ensures) out.rows in
    let left : shown f c.cut.new.self ≡ without_range start end rows = ap (shown f) c.cut.ensures ∙ out.left in
    let follows : Follows (Removed start end) rows (shown f c.cut.new.self) = (
      omega arith,
      omega (arith, length-shown h order c.self.invariant.0.there),
      left,
    ) in (
      valid,
      c.remove_rows.ensures rows follows c.self.invariant.1,
    )

pub returns : goal.returns
returns c =
    let h = get c.self.inside.entries in
    let f = get c.remove_under-end.new.entries in
    let start = c.place_for-start.result in
    let end = c.remove_under-end.result in
    let name = components c.args.name in
    let used = c.args.used.now in
    let used' = c.remove_under-end.new.used in
    subst (λ (rows : List Placed). (next : ℕ) → Sound rows used.entries next → TakesUnder name c.args.most rows used (shown f c.cut.new.self) used' next (end - start)) c.self.view_is
    (subst (λ (l : List ℕ). (next : ℕ) → Sound (shown h c.self.inside.order) used.entries next
    → TakesUnder name c.args.most (shown h c.self.inside.order) used (shown f l) used' next (end - start)) (sym c.cut.ensures) c.remove_under-end.ensures.taken)
