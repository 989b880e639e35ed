use Rattle.std.proofs.Common.{◌≡◌, ◌-◌, length, vec_len, ◌∙◌, arith, rules}
use Rattle.content_store.specs.PlaceBlocks.{flat}
use Rattle.content_store.specs.Uses.{without_range}
use Rattle.content_store.proofs.Flat.{flat_cut}
use Rattle.content_store.proofs.places.cut_blocks.Goals as goal

pub returns : goal.returns
returns c =
    let bs = c.args.blocks.now.items in
    let count : vec_len c.args.blocks.now ≡ length bs = search rules in
    let inv = c.loop-index.invariant in
    let all = c.loop-index-test.false in
    let start : c.args.start - 0 ≡ c.args.start = omega arith in
    let end : c.args.end - 0 ≡ c.args.end = omega arith in
    flat_cut 0 bs c.loop-index.blocks.items c.args.start c.args.end c.requires.laid.laid c.requires.ordered inv.len (λ i d lt. inv.cut i d (omega (arith, c.len-index-end.ensures)) lt)
    ∙ (λ k. without_range (start k) (end k) (flat bs))
