use Rattle.std.proofs.Common.{◌≡◌, ℕ, suc, ◌+◌, ◌<◌, ◌≤◌, length, get_or, sym, subst, arith}
use Rattle.std.proofs.lemmas.List.{get_or_default}
use Rattle.content_store.specs.declared.places.Block.{Block}
use Rattle.content_store.specs.PlaceBlocks.{flat}
use Rattle.content_store.proofs.Flat.{ends_at, first_begins}
use Rattle.content_store.proofs.places.block_at.Goals as goal
use Rattle.content_store.proofs.places.block_at.Goals.{then-first-blocks+then-blocks-first, else-first-blocks, then-low-last+then-last-high+then-at-blocks, else-low-last}

pub loop-high-init : goal.loop-high-init
loop-high-init c =
    let bs = c.args.blocks.now in
    let some = c.requires.some in
    let there : c.if-first-blocks.low < length bs =
    elim c.if-first-blocks.branch [ then-first-blocks+then-blocks-first w ↦ omega (arith, w.low-is, w.if-first-blocks.true) | else-first-blocks w ↦ omega (arith, w.low-is) ] in
    record {
      ordered =
          elim c.if-low-last.branch [
            | then-low-last+then-last-high+then-at-blocks w ↦ omega (arith, w.high-is, w.if-low-last.true)
            | else-low-last w ↦ omega (arith, w.high-is)
          ];
      within =
          elim c.if-low-last.branch [
            | then-low-last+then-last-high+then-at-blocks w ↦ omega (arith, w.high-is, w.if-last-high.true)
            | else-low-last w ↦ omega (arith, w.high-is)
          ];
      begins =
          elim c.if-first-blocks.branch [
            | then-first-blocks+then-blocks-first w ↦ λ d.
                let e = get_or_default bs c.args.first w.index-blocks-first.result d (omega (arith, w.if-first-blocks.true)) in
                subst (λ (n : ℕ). (get_or bs n d).start ≤ c.args.at) (sym w.low-is) (subst (λ (b : Block). b.start ≤ c.args.at) e w.if-blocks-first.true)
            | else-first-blocks w ↦ λ d. subst (λ (n : ℕ). (get_or bs n d).start ≤ c.args.at) (sym w.low-is) (omega (arith, first_begins 0 bs d c.requires.laid.laid some))
          ];
      before =
          elim c.if-low-last.branch [
            | then-low-last+then-last-high+then-at-blocks w ↦ λ d lt.
                let e = get_or_default bs c.args.last w.index-blocks-last.result d (omega (arith, w.if-last-high.true)) in
                subst (λ (n : ℕ). c.args.at < (get_or bs n d).start) (sym w.high-is) (subst (λ (b : Block). c.args.at < b.start) e w.if-at-blocks.true)
            | else-low-last w ↦ λ d lt. absurd (omega (arith, w.high-is))
          ];
    }

pub returns : goal.returns
returns c =
    let bs = c.args.blocks.now in
    let i = c.loop-high.low in
    let inv = c.loop-high.invariant in
    let low = inv.ordered in
    let high = inv.within in
    let end = c.loop-high-test.false in
    let next : c.loop-high.high ≡ suc i = omega arith in
    let there : i < length bs = omega arith in
    let both : (d : Block) → (c.args.at ≤ (get_or bs i d).start + length (get_or bs i d).items.items) × (c.args.at < length (flat bs) → c.args.at < (get_or bs i d).start + length (get_or bs i d).items.items) =
    λ d. ends_at bs i d c.args.at c.requires.laid.laid there (subst (λ (n : ℕ). n < length bs → c.args.at < (get_or bs n d).start) next (inv.before d)) c.requires.within in
    record {
      there = there;
      begins = inv.begins;
      ends = λ d. (both d).0;
      inside = λ lt d. (both d).1 lt;
    }
