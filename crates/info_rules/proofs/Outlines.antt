-- How `parted` splits the entries of an outline into keys and their blocks.
use Rattle.std.proofs.Common.{◌≡◌, ℕ, ◌+◌, ◌<◌, true, false, eqb, List, [], ◌∷◌, ◌++◌, refl, sym, ap, ◌∙◌, append_assoc, arith}
use Rattle.std.proofs.lemmas.List.{append-nil}
use Rattle.std.proofs.lemmas.Bool.Decides.{nat_tests}
use Rattle.info_rules.specs.Tree.{PlainEntry, Block, parted, blocks_of}
use Rattle.info_rules.specs.TreeGrammar.{Nodes, NoNode, Leaf, Branch, entry_of_head, outline, keyed}

same : (n : ℕ) → eqb n n ≡ true
same n = grind (arith, nat_tests)

other : (n m : ℕ) → m < n → eqb n m ≡ false
other n m h = grind (arith, nat_tests)

-- the result of `parted` for a list with one more entry in front, if this entry is not at `depth`
abbrev Front : ℕ → PlainEntry → List PlainEntry → List PlainEntry × List Block
Front depth entry entries = (entry ∷ (parted depth entries).0, (parted depth entries).1)

in_front : (depth : ℕ) (entry : PlainEntry) (entries : List PlainEntry) → eqb entry.depth depth ≡ false → parted depth (entry ∷ entries) ≡ Front depth entry entries
unfolding parted
in_front depth entry entries e = rw e refl

a_key : (depth : ℕ) (entry : PlainEntry) (entries : List PlainEntry) → eqb entry.depth depth ≡ true
    → parted depth (entry ∷ entries) ≡ ([], (entry, (parted depth entries).0) ∷ (parted depth entries).1)
unfolding parted
a_key depth entry entries e = rw e refl

-- the result of `parted` for a list with the entries `before` in front, if none of them is at the
-- depth at which `parted` splits; `rest` is the result for the list without them
abbrev After : List PlainEntry → List PlainEntry × List Block → List PlainEntry × List Block
After before rest = (before ++ rest.0, rest.1)

deeper : (at depth : ℕ) (nodes : Nodes) (after : List PlainEntry) → depth < at → parted depth (outline at nodes ++ after) ≡ After (outline at nodes) (parted depth after)
unfolding outline
deeper at depth NoNode after h = refl
deeper at depth (Leaf head others) after h =
    in_front depth (entry_of_head at head false) (outline at others ++ after) (other at depth h)
    ∙ ap (λ (p : List PlainEntry × List Block). (entry_of_head at head false ∷ p.0, p.1)) (deeper at depth others after h)
deeper at depth (Branch head opened block closed others) after h =
    let next : depth < at + 1 = omega arith in
    let whole = append_assoc (outline (at + 1) block) (outline at others) after in
    let inner = deeper (at + 1) depth block (outline at others ++ after) next in
    let outer = deeper at depth others after h in
    let both : parted depth ((outline (at + 1) block ++ outline at others) ++ after) ≡ After (outline (at + 1) block ++ outline at others) (parted depth after) =
    ap (parted depth) whole
    ∙ (inner
    ∙ (ap (After (outline (at + 1) block)) outer ∙ ap (λ (l : List PlainEntry). (l, (parted depth after).1)) (sym (append_assoc (outline (at + 1) block) (outline at others) (parted depth after).0))))
    in
    in_front depth (entry_of_head at head true) ((outline (at + 1) block ++ outline at others) ++ after) (other at depth h) ∙ ap (λ (p : List PlainEntry × List Block). (entry_of_head at head true ∷ p.0, p.1)) both

all_keys : (depth : ℕ) (nodes : Nodes) → parted depth (outline depth nodes) ≡ ([], keyed depth nodes)
unfolding outline keyed parted
all_keys depth NoNode = refl
all_keys depth (Leaf head others) =
    a_key depth (entry_of_head depth head false) (outline depth others) (same depth)
    ∙ ap (λ (p : List PlainEntry × List Block). ([], (entry_of_head depth head false, p.0) ∷ p.1)) (all_keys depth others)
all_keys depth (Branch head opened block closed others) =
    let next : depth < depth + 1 = omega arith in
    let inner = deeper (depth + 1) depth block (outline depth others) next in
    let rest : parted depth (outline (depth + 1) block ++ outline depth others) ≡ (outline (depth + 1) block, keyed depth others) =
    inner ∙ (ap (After (outline (depth + 1) block)) (all_keys depth others) ∙ ap (λ (l : List PlainEntry). (l, keyed depth others)) (append-nil (outline (depth + 1) block)))
    in
    a_key depth (entry_of_head depth head true) (outline (depth + 1) block ++ outline depth others) (same depth)
    ∙ ap (λ (p : List PlainEntry × List Block). ([], (entry_of_head depth head true, p.0) ∷ p.1)) rest

pub blocks_kept : (depth : ℕ) (nodes : Nodes) → blocks_of depth (outline depth nodes) ≡ keyed depth nodes
blocks_kept depth nodes = ap (λ (p : List PlainEntry × List Block). p.1) (all_keys depth nodes)
