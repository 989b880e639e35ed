use Rattle.std.proofs.Common.{◌≡◌, false, ap, sym, ◌∙◌}
use Rattle.std.specs.Prelude.{Option, None, Some, IsSome, is_some}
use Rattle.std.specs.Option.{option_and_then}
use Rattle.std.specs.FinMap.{len, get, empty_of_len, get-empty}
use Rattle.std.proofs.lemmas.Bool.{eqb-true, eq-eqb}
use Rattle.ndn_names.specs.Order.{component_cmp}
use Rattle.name_trie.specs.Links.{Links}
use Rattle.name_trie.proofs.Tidy.{none_linked}
use Rattle.name_trie.proofs.node.is_bare.Goals as goal

there : {X : Type 0} (o : Option X) (x : X) → Some x ≡ o → IsSome o
there None x e = absurd cc
there (Some y) x e = search

none_of : {X : Type 0} (o : Option X) → is_some o ≡ false → o ≡ None
none_of None e = cc
none_of (Some x) e = absurd cc

pub returns-then-is_none-clause-yes : goal.returns-then-is_none-clause-yes
returns-then-is_none-clause-yes g c = λ h.
    let node = c.in-Some.node.now in
    let is = c.in-Some.ensures in
    let zero : len node.children ≡ 0 = eqb-true (len node.children) 0 (sym c.is_empty.ensures ∙ h) in
    record {
      there = there _ node is;
      leaf = λ d. ap (option_and_then (λ n. get n.children d)) (sym is) ∙ ap (λ (m : Links). get m d) (empty_of_len node.children zero) ∙ get-empty component_cmp d;
      bare = ap (option_and_then (λ n. n.value)) (sym is) ∙ none_of node.value c.if-is_none.ensures;
    }

pub returns-then-is_none-clause-no : goal.returns-then-is_none-clause-no
returns-then-is_none-clause-no g c = λ bare.
    let node = c.in-Some.node.now in
    let zero : len node.children ≡ 0 = none_linked node.children (λ d. ap (option_and_then (λ n. get n.children d)) c.in-Some.ensures ∙ bare.leaf d) in
    c.is_empty.ensures ∙ eq-eqb (len node.children) 0 zero
