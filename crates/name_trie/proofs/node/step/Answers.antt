use Rattle.std.proofs.Common.{◌≡◌, ◌⊎◌, inl, inr, ap, subst, sym, ◌∙◌}
use Rattle.std.specs.Prelude.{Some}
use Rattle.slab.specs.Slab.{get}
use Rattle.ndn_names.specs.View.{field_of}
use Rattle.name_trie.specs.Trie.{Sound, lookup, walk, value}
use Rattle.name_trie.specs.Changes.{IsBare}
use Rattle.name_trie.proofs.Tidy.{made_or, bare_joined, bare_same}
use Rattle.name_trie.proofs.Changed.{sound_joined, lacks_joined, lookups_lacking, walks_before, child_joined, same_heap, by_result, if_ok_then, live, there_by_up}
use Rattle.name_trie.proofs.node.step.Goals as goal

pub add_child-requires-clause-there : goal.add_child-requires-clause-there
add_child-requires-clause-there g c =
    let h = get c.args.nodes.now in
    let room = c.requires.room in
    let up = live h c.args.root c.requires.sound room.0 c.args.at room.2 in
    there_by_up h c.args.at up.0 up.1

pub returns-clause-sound : goal.returns-clause-sound
returns-clause-sound g c =
    let h = get c.args.nodes.now in
    let h' = get c.add_child.new.nodes in
    let root = c.args.root in
    let x = field_of c.args.component in
    by_result c.add_child.result (Sound h' root) c.add_child.ensures.ok c.add_child.ensures.err
    (λ k joins. sound_joined k c.args.at x h h' joins root c.requires.sound (sym c.in_default.ensures) c.requires.room)
    (λ same. subst (λ f. Sound f root) (sym (same_heap h h' same)) c.requires.sound)

pub returns-clause-same : goal.returns-clause-same
returns-clause-same g c = λ q.
    let h = get c.args.nodes.now in
    let h' = get c.add_child.new.nodes in
    let root = c.args.root in
    let x = field_of c.args.component in
    by_result c.add_child.result (lookup h' root q ≡ lookup h root q) c.add_child.ensures.ok c.add_child.ensures.err
    (λ k joins. sym (lookups_lacking k h' root h root (lacks_joined k c.args.at x h h' joins root c.requires.sound (sym c.in_default.ensures)) q))
    (λ same. ap (λ f. lookup f root q) (same_heap h h' same))

pub returns-clause-kept : goal.returns-clause-kept
returns-clause-kept g c = λ q j e.
    let h = get c.args.nodes.now in
    let h' = get c.add_child.new.nodes in
    let root = c.args.root in
    let x = field_of c.args.component in
    by_result c.add_child.result (walk h' root q ≡ Some j) c.add_child.ensures.ok c.add_child.ensures.err
    (λ k joins. walks_before k h' root h root (lacks_joined k c.args.at x h h' joins root c.requires.sound (sym c.in_default.ensures)) q j e)
    (λ same. ap (λ f. walk f root q) (same_heap h h' same) ∙ e)

pub returns-clause-ok : goal.returns-clause-ok
returns-clause-ok g c =
    if_ok_then c.add_child.result c.add_child.ensures.ok
    (λ k joins. child_joined k c.args.at (field_of c.args.component) (get c.args.nodes.now) (get c.add_child.new.nodes) joins)

pub returns-clause-tidy : goal.returns-clause-tidy
returns-clause-tidy g c = λ j b.
    let h = get c.args.nodes.now in
    let h' = get c.add_child.new.nodes in
    let x = field_of c.args.component in
    made_or c.add_child.result j c.add_child.ensures.ok c.add_child.ensures.err
    (λ k joins. elim (bare_joined h h' k c.args.at x joins j b) as (λ _. (j ≡ k) ⊎ IsBare h j) [ (inl is) ↦ inl is | (inr was) ↦ inr was.1 ])
    (λ same. bare_same h h' j (same j) b)

pub returns-clause-values : goal.returns-clause-values
returns-clause-values g c = λ j.
    let h = get c.args.nodes.now in
    let h' = get c.add_child.new.nodes in
    let root = c.args.root in
    let x = field_of c.args.component in
    by_result c.add_child.result (value h' j ≡ value h j) c.add_child.ensures.ok c.add_child.ensures.err
    (λ k joins. sym ((lacks_joined k c.args.at x h h' joins root c.requires.sound (sym c.in_default.ensures)).values j))
    (λ same. ap (λ f. value f j) (same_heap h h' same))
