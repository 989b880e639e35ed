use Rattle.std.proofs.Common.{◌≡◌, suc, ◌+◌, ◌-◌, ◌<◌, List, [], length, vec_len, get_or, ap, sym, ◌∙◌, arith, rules}
use Rattle.std.proofs.lemmas.List.{nil_from_length}
use Rattle.content_store.specs.declared.places.Block.{Block}
use Rattle.content_store.specs.PlaceBlocks.{flat}
use Rattle.content_store.proofs.Flat.{last_ends, nothing_laid}
use Rattle.content_store.proofs.places.Places.len.Goals as goal
use Rattle.content_store.proofs.places.Places.len.Goals.{After-len}

total : (c : After-len) → c.in-Some.block.now.start + c.len.result ≡ length (flat c.self.inside.blocks.items)
total c =
    let bs = c.self.inside.blocks.items in
    let d = c.in-Some.block.now in
    let w = c.in-Some.ensures.item in
    let some : 0 < length bs = omega (arith, ap length c.deref.ensures.value, w.3.0) in
    let i : suc (length bs - 1) ≡ length bs = omega arith in
    let last : d ≡ get_or bs (length bs - 1) d = w.1 ∙ ap (λ (l : List Block). get_or l (length l - 1) d) c.deref.ensures.value in
    let ends = last_ends 0 bs (length bs - 1) d c.self.invariant.laid i in
    let count : vec_len d.items ≡ length d.items.items = search rules in
    omega (arith, ends, ap (λ (b : Block). b.start) last, ap (λ (b : Block). length b.items.items) last, c.len.ensures, count)

pub overflow_add-result : goal.overflow_add-result
overflow_add-result c = (let short = c.self.invariant.short in omega (arith, total (goal.at.overflow_add-result c).After-len))

pub returns-in-Some : goal.returns-in-Some
returns-in-Some c = total (goal.at.returns-in-Some c).After-len ∙ ap length c.self.view_is

pub returns-in-None : goal.returns-in-None
returns-in-None c =
    let bs = c.self.inside.blocks.items in
    let none : bs ≡ [] = nil_from_length bs (omega (arith, ap length c.deref.ensures.value, c.in-None.ensures.item.3)) in
    ap length (sym (nothing_laid bs none).1) ∙ ap length c.self.view_is
