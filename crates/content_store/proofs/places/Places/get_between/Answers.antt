use Rattle.std.proofs.Common.{ℕ, ◌-◌, ◌<◌, List, length, get_or, ap, sym, subst, ◌∙◌, arith}
use Rattle.std.proofs.lemmas.List.{get_or_default}
use Rattle.content_store.specs.declared.places.Block.{Block}
use Rattle.content_store.specs.PlaceBlocks.{IsIn, flat}
use Rattle.content_store.proofs.Flat.{inside, read, some_laid}
use Rattle.content_store.proofs.places.Places.get_between.Goals as goal
use Rattle.content_store.proofs.places.Places.get_between.Goals.{After-deref}

within : (c : After-deref) → c.args.at < length (flat c.self.inside.blocks.items)
within c = (let lt = c.requires in omega (arith, ap length c.self.view_is))

pub block_at-index-requires-clause-some : goal.block_at-index-requires-clause-some
block_at-index-requires-clause-some c =
    let a = (goal.at.block_at-index-requires-clause-some c).After-deref in
    subst (λ (l : List Block). 0 < length l) (sym c.deref.ensures.value) (some_laid c.self.inside.blocks.items c.args.at (within a))

pub returns : goal.returns
returns c =
    let a = (goal.at.returns c).After-deref in
    let bs = c.self.inside.blocks.items in
    let b = c.index-block.result.now in
    let is : IsIn bs c.args.at c.block_at-index.result = subst (λ (l : List Block). IsIn l c.args.at c.block_at-index.result) c.deref.ensures.value c.block_at-index.ensures in
    let lt = inside bs c.args.at c.block_at-index.result b c.self.invariant.laid is c.index-block.ensures (within a) in
    c.index.ensures ∙ get_or_default b.items.items (c.args.at - b.start) c.index.result.now 0 lt
    ∙ sym (read bs c.args.at c.block_at-index.result b c.self.invariant.laid is c.index-block.ensures (within a))
    ∙ ap (λ (l : List ℕ). get_or l c.args.at 0) c.self.view_is
