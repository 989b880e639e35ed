use Rattle.std.proofs.Common.{◌≡◌, ℕ, suc, ◌+◌, ◌-◌, ◌/◌, ◌++◌, List, length, get_or, set, take, drop, insert, ap, sym, ◌∙◌, arith}
use Rattle.std.proofs.lemmas.List.{get_or_default, take-append-drop, take_rest}
use Rattle.std.proofs.lemmas.List.Edits.{get_or-insert_below}
use Rattle.content_store.specs.declared.places.Block.{Block}
use Rattle.content_store.specs.PlaceBlocks.{flat}
use Rattle.content_store.proofs.Flat.{flat_split}
use Rattle.content_store.proofs.places.split.Goals as goal
use Rattle.content_store.proofs.places.split.Goals.{After-truncate}

halves : (c : After-truncate)
    → flat (set c.insert.new.self.items c.args.index (record { start = c.index_mut.result.now.start; items = c.truncate.new.self })) ≡ flat c.args.blocks.now.items
halves c =
    let bs = c.args.blocks.now.items in
    let i = c.args.index in
    let b = c.index-2.result.now in
    let half = c.len-half.result / 2 in
    let first : Block = record { start = c.index_mut.result.now.start; items = c.truncate.new.self } in
    let second : Block = record { start = 0; items = c.in_ok-items.items } in
    let next : i + 1 ≡ suc i = omega arith in
    let there = c.requires.there in
    let inserted = c.in_ok-insert.ensures.items in
    let mutated : c.index_mut.result.now ≡ b =
    c.index_mut.ensures.value ∙ ap (λ (l : List Block). get_or l i c.index_mut.result.now) inserted
    ∙ get_or-insert_below bs (i + 1) second c.index_mut.result.now i (omega arith) (omega arith)
    ∙ get_or_default bs i c.index_mut.result.now b there ∙ sym c.index-2.ensures in
    let front : c.truncate.new.self.items ≡ take half b.items.items = c.truncate.ensures.items ∙ ap (λ (x : Block). take half x.items.items) mutated in
    let back : c.in_ok-items.items.items ≡ drop half b.items.items =
    c.in_ok-items.ensures.items ∙ ap (λ (l : List ℕ). take (length l - half) (drop half l)) c.deref.ensures.value ∙ take_rest b.items.items half in
    ap (λ (l : List Block). flat (set l i first)) (inserted ∙ ap (λ (n : ℕ). insert bs n second) next)
    ∙ flat_split bs i b first second there ((λ k. front k ++ back k) ∙ take-append-drop half b.items.items ∙ ap (λ (x : Block). x.items.items) c.index-2.ensures)

pub lay-requires : goal.lay-requires
lay-requires c =
    let short = c.requires.laid.short in
    omega (arith, ap length (halves (goal.at.lay-requires c).After-truncate))

pub returns-clause-same : goal.returns-clause-same
returns-clause-same c = c.lay.ensures.same ∙ halves (goal.at.returns-clause-same c).After-truncate
