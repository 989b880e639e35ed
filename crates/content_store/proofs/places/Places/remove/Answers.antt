use Rattle.std.proofs.Common.{◌≡◌, ℕ, ◌-◌, ◌<◌, List, length, set, ap, sym, subst, ◌∙◌, arith}
use Rattle.std.specs.List.{remove}
use Rattle.std.proofs.lemmas.List.Edits.{length-remove}
use Rattle.content_store.specs.declared.places.Block.{Block}
use Rattle.content_store.specs.PlaceBlocks.{IsIn, flat}
use Rattle.content_store.proofs.Flat.{read_twice, some_laid, taken_out}
use Rattle.content_store.proofs.places.Places.remove.Goals as goal
use Rattle.content_store.proofs.places.Places.remove.Goals.{After-deref, After-remove}

within : (c : After-deref) → c.args.at < length (flat c.self.inside.blocks.items)
within c = (let lt = c.requires in omega (arith, ap length c.self.view_is))

pub block_at-index-requires-clause-some : goal.block_at-index-requires-clause-some
block_at-index-requires-clause-some c =
    let a = (goal.at.block_at-index-requires-clause-some c).After-deref in
    subst (λ (l : List Block). 0 < length l) (sym c.deref.ensures.value) (some_laid c.self.inside.blocks.items c.args.at (within a))

-- after the removal from one block, the slab indexes of all blocks are the old slab indexes without
-- the one at position `at`
left : (c : After-remove)
    → flat (set c.self.inside.blocks.items c.block_at-index.result (record { start = c.index_mut.result.now.start; items = c.remove.new.self })) ≡ remove (flat c.self.inside.blocks.items) c.args.at
left c =
    let bs = c.self.inside.blocks.items in
    let i = c.block_at-index.result in
    let is : IsIn bs c.args.at i = subst (λ (l : List Block). IsIn l c.args.at i) c.deref.ensures.value c.block_at-index.ensures in
    let one = read_twice bs i c.index.result.now c.index_mut.result.now is.there c.index.ensures c.index_mut.ensures.value in
    taken_out bs c.args.at i c.index_mut.result.now c.self.invariant.laid is c.index_mut.ensures.value
    (record { start = c.index_mut.result.now.start; items = c.remove.new.self }) (omega (arith, c.requires, ap length c.self.view_is))
    (c.remove.ensures.items ∙ ap (λ (b : Block). remove c.index_mut.result.now.items.items (c.args.at - b.start)) one)

pub lay-requires : goal.lay-requires
lay-requires c =
    let a = (goal.at.lay-requires c).After-remove in
    let d = (goal.at.lay-requires c).After-deref in
    let short = c.self.invariant.short in
    omega (arith, ap length c.join.ensures, ap length (left a), length-remove (flat c.self.inside.blocks.items) c.args.at (within d))

pub returns : goal.returns
returns c =
    let a = (goal.at.returns c).After-remove in
    c.lay.ensures.same ∙ c.join.ensures ∙ left a ∙ ap (λ (l : List ℕ). remove l c.args.at) c.self.view_is
