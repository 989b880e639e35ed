use Rattle.std.proofs.Common.{◌≡◌, ◌≢◌, ℕ, true, false, ap, sym, ◌∙◌}
use Rattle.std.specs.Prelude.{Option, Some, None, Result, Ok, Err, OnOk, OnErr, IsSome}
use Rattle.std.specs.Result.{is_err}
use Rattle.slab.specs.Slab.{get, with_value}
use Rattle.slab.proofs.SlabLemmas.{Updates-with_value}
use Rattle.std.specs.FinMap.{empty, insert}
use Rattle.name_trie.specs.declared.component_buf.Hint.{Hint}
use Rattle.name_trie.specs.Hint.{hint_of}
use Rattle.name_trie.specs.Links.{Links}
use Rattle.name_trie.proofs.Changed.{same_or}
use Rattle.name_trie.proofs.node.add_child.Goals as goal
use Rattle.name_trie.proofs.node.add_child.Goals.{Else-is_err, Joined-remove}

on_ok : {A E : Type 0} (r : Result A E) (P : Type 0) → is_err r ≡ false → OnOk r P → P
on_ok (Ok x) P e h = h
on_ok (Err x) P e h = absurd cc

on_err : {A E : Type 0} (r : Result A E) (P : Type 0) → is_err r ≡ true → OnErr r P → P
on_err (Ok x) P e h = absurd cc
on_err (Err x) P e h = h

apart : {X : Type 0} (f : ℕ → Option X) (k at : ℕ) → f k ≡ None → IsSome (f at) → at ≢ k
apart f k at none some e = (let gone = rw (ap f e ∙ none) at some in cc)

some_is : {X : Type 0} (o p : Option X) → p ≡ o → IsSome o → IsSome p
some_is o p e h = rw e h

pub returns-then-is_err-clause-err : goal.returns-then-is_err-clause-err
returns-then-is_err-clause-err g c = λ j.
    let old = get c.args.nodes.now in
    let node = c.index_mut.result.now in
    let k = c.in_ok-k.k in
    let at = c.args.at in
    let added = c.in_ok-k.ensures.updates in
    let gone = c.remove.ensures.updates in
    let ne : at ≢ k = apart old k at c.in_ok-k.ensures.was_vacant c.requires.there in
    let wrote = Updates-with_value c.insert.new.self at (record node { children = c.insert-2.new.self }) (some_is (old at) _ (added.others at ne) c.requires.there) in
    let same : c.insert-2.new.self ≡ node.children = on_err c.insert-2.result _ (sym c.is_err.ensures.value ∙ c.if-is_err.true) c.insert-2.ensures.err in
    same_or j k (get c.remove.new.self j ≡ old j)
    (λ e. ap (get c.remove.new.self) e ∙ gone.changed ∙ sym (ap old e ∙ c.in_ok-k.ensures.was_vacant))
    (λ not_k. gone.others j not_k ∙ same_or j at _
    (λ e. ap (get (with_value c.insert.new.self at (record node { children = c.insert-2.new.self }))) e ∙ wrote.changed ∙ ap (λ (m : Links). Some (record node { children = m })) same ∙ sym c.index_mut.ensures.value ∙ added.others at ne ∙ ap old (sym e))
    (λ not_at. wrote.others j not_at ∙ added.others j not_k))

pub returns-clause-ok : goal.returns-clause-ok
returns-clause-ok g c =
    let old = get c.args.nodes.now in
    let node = c.index_mut.result.now in
    let k = c.in_ok-k.k in
    let at = c.args.at in
    let added = c.in_ok-k.ensures.updates in
    let ne : at ≢ k = apart old k at c.in_ok-k.ensures.was_vacant c.requires.there in
    let there : old at ≡ Some node = sym (added.others at ne) ∙ c.index_mut.ensures.value in
    let wrote = Updates-with_value c.insert.new.self at (record node { children = c.insert-2.new.self }) (some_is (old at) _ (added.others at ne) c.requires.there) in
    record {
      node = node;
      there = there;
      fresh = c.in_ok-k.ensures.was_vacant;
      leaf = wrote.others k (λ e. ne (sym e)) ∙ added.changed ∙ ap (λ (m : Links). Some (record { parent = Some at; hint = c.hint.result; children = m; value = None })) c.new.ensures
          ∙ ap (λ (x : Hint). Some (record { parent = Some at; hint = x; children = empty; value = None })) (c.hint.ensures ∙ ap hint_of c.in_ok-key.ensures);
      above = wrote.changed ∙ ap (λ (m : Links). Some (record node { children = m })) (on_ok c.insert-2.result _ (sym c.is_err.ensures.value ∙ c.if-is_err.false) c.insert-2.ensures.ok ∙ ap (λ x. insert node.children x k) c.in_ok-key.ensures);
      others = λ j not_k not_at. wrote.others j not_at ∙ added.others j not_k;
    }
