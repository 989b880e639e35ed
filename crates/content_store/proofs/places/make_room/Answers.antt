use Rattle.std.proofs.Common.{◌≡◌, ℕ, ◌++◌, List, length, vec_len, eqb-true, rules, ap, sym, subst, ◌∙◌, arith}
use Rattle.std.proofs.lemmas.List.{append-nil, nil_from_length}
use Rattle.content_store.specs.declared.places.Block.{Block}
use Rattle.content_store.specs.PlaceBlocks.{AreLaid, flat}
use Rattle.content_store.proofs.Flat.{flat_push, laid_push, nothing_laid}
use Rattle.content_store.proofs.places.make_room.Goals as goal

pub returns-then-is_empty-clause-same : goal.returns-then-is_empty-clause-same
returns-then-is_empty-clause-same c =
    let bs = c.args.blocks.now.items in
    let b : Block = record { start = 0; items = c.new-items.result } in
    ap flat c.in_ok-push.ensures.items ∙ flat_push bs b ∙ ap (λ (l : List ℕ). flat bs ++ l) c.new-items.ensures.items ∙ append-nil (flat bs)

pub returns-then-is_empty-clause-laid : goal.returns-then-is_empty-clause-laid
returns-then-is_empty-clause-laid c =
    let bs = c.args.blocks.now.items in
    let b : Block = record { start = 0; items = c.new-items.result } in
    let count : vec_len c.args.blocks.now ≡ length bs = search rules in
    let no : vec_len c.args.blocks.now ≡ 0 = eqb-true (vec_len c.args.blocks.now) 0 (sym c.if-is_empty.ensures) in
    let none = nothing_laid bs (nil_from_length bs (omega arith)) in
    let whole : flat c.push.new.self.items ≡ flat bs = ap flat c.in_ok-push.ensures.items ∙ flat_push bs b ∙ ap (λ (l : List ℕ). flat bs ++ l) c.new-items.ensures.items ∙ append-nil (flat bs) in
    record {
      laid = subst (AreLaid 0) (sym c.in_ok-push.ensures.items) (laid_push 0 bs b c.requires.laid.laid (omega (arith, ap length none.1)));
      short = omega (arith, ap length whole, ap length none.1);
    }
