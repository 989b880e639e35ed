use Rattle.std.proofs.Common.{◌≡◌, ◌-◌, ◌<◌, List, length, get_or, set, insert, ap, subst, ◌∙◌, arith, rules}
use Rattle.std.proofs.lemmas.List.Edits.{length-insert}
use Rattle.content_store.specs.declared.places.Block.{Block}
use Rattle.content_store.specs.PlaceBlocks.{IsIn, flat}
use Rattle.content_store.proofs.Flat.{flat_set, laid_set, put_in, read_twice}
use Rattle.content_store.proofs.places.put.Goals as goal
use Rattle.content_store.proofs.places.put.Goals.{In_ok-insert}

pub returns-in_err-insert-clause-err : goal.returns-in_err-insert-clause-err
returns-in_err-insert-clause-err c =
    let same : flat (set c.args.blocks.now.items c.block_at-index.result (record { start = c.index_mut.result.now.start; items = c.insert.new.self })) ≡ flat c.args.blocks.now.items =
    flat_set c.args.blocks.now.items c.block_at-index.result c.index_mut.result.now (record { start = c.index_mut.result.now.start; items = c.insert.new.self })
    (omega (arith, ap length c.deref.ensures.value, c.block_at-index.ensures.there)) (c.in_err-insert.ensures.items ∙ ap (λ (b : Block). b.items.items) c.index_mut.ensures.value) in
    search (rules, same)

pub returns-in_err-insert-clause-laid : goal.returns-in_err-insert-clause-laid
returns-in_err-insert-clause-laid c =
    let bs = c.args.blocks.now.items in
    let i = c.block_at-index.result in
    let b : Block = record { start = c.index_mut.result.now.start; items = c.insert.new.self } in
    let there : i < length bs = omega (arith, ap length c.deref.ensures.value, c.block_at-index.ensures.there) in
    let items : c.insert.new.self.items ≡ (get_or bs i c.index_mut.result.now).items.items = c.in_err-insert.ensures.items ∙ ap (λ (b : Block). b.items.items) c.index_mut.ensures.value in
    let short = c.requires.laid.short in
    record {
      laid = laid_set 0 bs i c.index_mut.result.now b there (ap (λ (b : Block). b.start) c.index_mut.ensures.value) items c.requires.laid.laid;
      short = omega (arith, ap length (flat_set bs i c.index_mut.result.now b there items));
    }

-- after the insertion into one block, the slab indexes of all blocks are the old slab indexes with
-- the new one inserted at position `at`
more : (c : In_ok-insert)
    → flat (set c.args.blocks.now.items c.block_at-index.result (record { start = c.index_mut.result.now.start; items = c.insert.new.self })) ≡ insert (flat c.args.blocks.now.items) c.args.at c.args.place
more c =
    let bs = c.args.blocks.now.items in
    let i = c.block_at-index.result in
    let is : IsIn bs c.args.at i = subst (λ (l : List Block). IsIn l c.args.at i) c.deref.ensures.value c.block_at-index.ensures in
    let one = read_twice bs i c.index.result.now c.index_mut.result.now is.there c.index.ensures c.index_mut.ensures.value in
    put_in bs c.args.at i c.index_mut.result.now c.requires.laid.laid is c.index_mut.ensures.value
    (record { start = c.index_mut.result.now.start; items = c.insert.new.self }) c.args.place
    (c.in_ok-insert.ensures.items ∙ ap (λ (b : Block). insert c.index_mut.result.now.items.items (c.args.at - b.start) c.args.place) one)

pub lay-requires : goal.lay-requires
lay-requires c =
    let a = (goal.at.lay-requires c).In_ok-insert in
    let short = c.requires.short in
    omega (arith, ap length (more a), length-insert (flat c.args.blocks.now.items) c.args.at c.args.place c.requires.within)

pub returns-clause-ok : goal.returns-clause-ok
returns-clause-ok c = c.lay.ensures.same ∙ more (goal.at.returns-clause-ok c).In_ok-insert
