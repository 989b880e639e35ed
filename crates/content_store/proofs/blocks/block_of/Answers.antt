use Rattle.std.proofs.Common.{◌≡◌, ◌⊎◌, inl, inr, ℕ, ◌<◌, ◌≤◌, get_or, sym, ap, subst, ◌∙◌, arith}
use Rattle.slab.specs.Slab.{get}
use Rattle.content_store.specs.Rows.{Placed, shown, held_at}
use Rattle.content_store.specs.Blocks.{fresh_until}
use Rattle.content_store.proofs.Shown.{shown_at}
use Rattle.content_store.proofs.blocks.block_of.Goals as goal

same_or_less : (a b : ℕ) → a ≤ b → (a ≡ b) ⊎ (a < b)
same_or_less a b le = grind arith

pub loop-at-preserved : goal.loop-at-preserved
loop-at-preserved c = λ k d low lt.
    let rows = shown (get c.args.entries.now) c.args.order.now in
    let more : c.loop-at.until ≤ c.max-until.result = grind arith in
    let its : c.fresh_until.result ≤ c.max-until.result = grind arith in
    elim (same_or_less k c.loop-at.at (omega arith)) [
      | inl same ↦
          let here = shown_at (get c.args.entries.now) c.args.order.now c.loop-at.at c.index.result.now c.requires.there (omega arith) (ap (get c.args.entries.now) (sym c.get.ensures) ∙ c.index.ensures) d in
          subst (λ (n : ℕ). fresh_until (held_at (get_or rows n d)) ≤ c.max-until.result) (sym same)
          (subst (λ (x : Placed). fresh_until (held_at x) ≤ c.max-until.result) (sym here) (omega arith))
      | inr before ↦ (let le = c.loop-at.invariant k d low before in omega arith)
    ]
