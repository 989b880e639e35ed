use Rattle.std.proofs.Common.{◌≡◌, ◌+◌, ◌<◌, List, length, vec_len, take, set, ap, sym, subst, ◌∙◌, refl, arith, rules}
use Rattle.std.proofs.lemmas.List.{take_more_set, length-append, length-set, get_or-set_same}
use Rattle.content_store.specs.declared.places.Block.{Block}
use Rattle.content_store.specs.PlaceBlocks.{AreLaid, flat}
use Rattle.content_store.proofs.Flat.{flat_none, flat_push, flat_set, laid_none, laid_push, length-flat_take}
use Rattle.content_store.proofs.places.lay.Goals as goal
use Rattle.content_store.proofs.places.lay.Goals.{After-len-start}

pub loop-index-init : goal.loop-index-init
loop-index-init c = record { len = refl; same = refl; laid = laid_none; start = ap length (sym flat_none) }

-- the block with its start updated
abbrev told : After-len-start → Block
told c = record { start = c.loop-index.start; items = c.index_mut.result.now.items }

there : (c : After-len-start) → c.loop-index.index < length c.loop-index.blocks.items
there c =
    let count : vec_len c.loop-index.blocks ≡ length c.loop-index.blocks.items = search rules in
    let lt = c.loop-index-test.true in
    let len = c.loop-index.invariant.len in
    omega arith

same : (c : After-len-start) → flat (set c.loop-index.blocks.items c.loop-index.index (told c)) ≡ flat c.args.blocks.now.items
same c =
    flat_set c.loop-index.blocks.items c.loop-index.index c.index_mut.result.now (told c) (there c) (ap (λ (b : Block). b.items.items) c.index_mut.ensures.value) ∙ c.loop-index.invariant.same

sums : (c : After-len-start)
    → c.loop-index.start + c.len-start.result ≡ length (flat (take (c.loop-index.index + 1) (set c.loop-index.blocks.items c.loop-index.index (told c))))
sums c =
    let bs = c.loop-index.blocks.items in
    let i = c.loop-index.index in
    let e : c.index.result.now ≡ told c = c.index.ensures ∙ get_or-set_same bs i (told c) c.index.result.now (there c) in
    let count : vec_len c.index_mut.result.now.items ≡ length c.index_mut.result.now.items.items = search rules in
    let its : c.len-start.result ≡ length c.index_mut.result.now.items.items = c.len-start.ensures ∙ ap (λ (b : Block). vec_len b.items) e ∙ count in
    let start = c.loop-index.invariant.start in
    omega (arith, ap (λ (l : List Block). length (flat l)) (take_more_set bs i (told c) (there c)), ap length (flat_push (take i bs) (told c)), length-append (flat (take i bs)) c.index_mut.result.now.items.items)

pub overflow_add-start : goal.overflow_add-start
overflow_add-start c =
    let a = (goal.at.overflow_add-start c).After-len-start in
    let short = c.requires in
    omega (arith, sums a, length-flat_take (set c.loop-index.blocks.items c.loop-index.index (told a)) (c.loop-index.index + 1), ap length (same a))

pub loop-index-preserved : goal.loop-index-preserved
loop-index-preserved c =
    let a = (goal.at.loop-index-preserved c).After-len-start in
    let bs = c.loop-index.blocks.items in
    let i = c.loop-index.index in
    let inv = c.loop-index.invariant in
    record {
      len = length-set bs i (told a) ∙ inv.len;
      same = same a;
      laid = subst (AreLaid 0) (sym (take_more_set bs i (told a) (there a))) (laid_push 0 (take i bs) (told a) inv.laid (omega (arith, inv.start)));
      start = sums a;
    }
