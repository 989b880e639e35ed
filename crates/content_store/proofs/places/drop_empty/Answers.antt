use Rattle.std.proofs.Common.{◌≡◌, ◌-◌, ◌<◌, [], length, vec_len, get_or, eqb-true, ap, sym, ◌∙◌, arith, rules}
use Rattle.std.proofs.lemmas.List.{nil_from_length}
use Rattle.std.proofs.lemmas.List.Edits.{length-remove}
use Rattle.content_store.specs.declared.places.Block.{Block}
use Rattle.content_store.specs.PlaceBlocks.{flat}
use Rattle.content_store.proofs.Flat.{flat_drop}
use Rattle.content_store.proofs.places.drop_empty.Goals as goal

pub loop-index-preserved-then-is_empty : goal.loop-index-preserved-then-is_empty
loop-index-preserved-then-is_empty c =
    let bs = c.loop-index.blocks.items in
    let i = c.loop-index.index - 1 in
    let b = c.index.result.now in
    let within = c.loop-index.invariant.within in
    let some = c.loop-index-test.true in
    let there : i < length bs = omega arith in
    let count : vec_len b.items ≡ length b.items.items = search rules in
    let no : vec_len b.items ≡ 0 = eqb-true (vec_len b.items) 0 (sym c.if-is_empty.ensures) in
    let none : (get_or bs i b).items.items ≡ [] = ap (λ (x : Block). x.items.items) (sym c.index.ensures) ∙ nil_from_length b.items.items (omega arith) in
    record {
      within = omega (arith, ap length c.remove.ensures.items, length-remove bs i there);
      same = ap flat c.remove.ensures.items ∙ flat_drop bs i b there none ∙ c.loop-index.invariant.same;
    }
