use Rattle.std.proofs.Common.{◌≡◌, ℕ, suc, ◌+◌, ◌<◌, ◌++◌, [], length, vec_len, rules, get_or, set, ap, sym, ◌∙◌, arith}
use Rattle.std.specs.List.{remove}
use Rattle.std.proofs.lemmas.List.{get_or_default, nil_from_length}
use Rattle.content_store.specs.declared.places.Block.{Block}
use Rattle.content_store.specs.PlaceBlocks.{flat}
use Rattle.content_store.proofs.Flat.{flat_drop, flat_join}
use Rattle.content_store.proofs.places.join.Goals as goal

pub returns-then-len-eq0 : goal.returns-then-len-eq0
returns-then-len-eq0 c =
    let bs = c.args.blocks.now.items in
    let b = c.index.result.now in
    let count : vec_len b.items ≡ length b.items.items = search rules in
    let none : (get_or bs c.args.index b).items.items ≡ [] =
    ap (λ (x : Block). x.items.items) (sym c.index.ensures) ∙ nil_from_length b.items.items (omega (arith, c.len-len.ensures, c.if-len-eq0.true)) in
    ap flat c.remove.ensures.items ∙ flat_drop bs c.args.index b c.requires none

pub returns-in-Ok : goal.returns-in-Ok
returns-in-Ok c =
    let bs = c.args.blocks.now.items in
    let i = c.args.index in
    let d = c.index-2.result.now in
    let both : Block = record { start = c.index_mut.result.now.start; items = c.in-Ok.items } in
    let next : i + 1 ≡ suc i = omega arith in
    let more : suc i < length bs = omega arith in
    let first : c.deref.result.now ≡ (get_or bs i d).items.items = c.deref.ensures.value ∙ ap (λ (b : Block). b.items.items) c.index-2.ensures in
    let second : c.deref-2.result.now ≡ (get_or bs (suc i) d).items.items =
    c.deref-2.ensures.value ∙ ap (λ (b : Block). b.items.items) (c.index-3.ensures ∙ ap (λ (n : ℕ). get_or bs n c.index-3.result.now) next ∙ get_or_default bs (suc i) c.index-3.result.now d more) in
    ap flat (c.remove-in-Ok.ensures.items ∙ ap (λ (n : ℕ). remove (set bs i both) n) next) ∙ flat_join bs i d both more (c.in-Ok.ensures ∙ (λ k. first k ++ second k))
