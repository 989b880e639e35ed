-- Which nodes have neither value nor children after a change.
use Rattle.std.proofs.Common.{◌≡◌, ◌≢◌, ℕ, refl, sym, ap, ◌∙◌, ◌⊎◌, inl, inr}
use Rattle.std.specs.Prelude.{Option, None, Some, IsSome, Result, Ok, Err, IfOk, OnErr}
use Rattle.std.specs.Option.{option_and_then, option_map}
use Rattle.std.specs.FinMap.{get, empty, len, get-empty, len-empty, same_map}
use Rattle.ndn_tlv.specs.Element.{Field}
use Rattle.ndn_names.specs.Order.{component_cmp}
use Rattle.ndn_names.specs.Key.{component_cmp-total, component_cmp-antisymmetric}
use Rattle.name_trie.specs.declared.node.Node.{Node}
use Rattle.name_trie.specs.ByName.{revise}
use Rattle.name_trie.specs.Links.{Links, unless_is}
use Rattle.name_trie.specs.Trie.{Heap, child}
use Rattle.name_trie.specs.Changes.{Joins, Cuts, Sets, IsBare}
use Rattle.name_trie.proofs.Changed.{same_or, some_along, child_joined}

module _ {V : Type 0} (h h' : Heap V) where
  pub bare_same : (j : ℕ) → h' j ≡ h j → IsBare h' j → IsBare h j
  bare_same j e bare = record {
    there = some_along (h j) (h' j) (sym e) bare.there;
    leaf = λ c. ap (option_and_then (λ n. get n.children c)) (sym e) ∙ bare.leaf c;
    bare = ap (option_and_then (λ n. n.value)) (sym e) ∙ bare.bare;
  }

  pub bare_joined : (k at : ℕ) (c : Field) → Joins k at c h h' → (j : ℕ) → IsBare h' j → (j ≡ k) ⊎ ((j ≢ at) × IsBare h j)
  bare_joined k at c joins j bare =
      same_or j k _ (λ is. inl is)
      (λ not_k. same_or j at _
      (λ is. absurd (let link = child_joined k at c h h' joins in let none : child h' at c ≡ None = ap (λ (i : ℕ). child h' i c) (sym is) ∙ bare.leaf c in cc))
      (λ not_at. inr (not_at, bare_same j (joins.others j not_k not_at) bare)))

  pub bare_set : (k : ℕ) (v : Option V) → Sets k v h h' → (j : ℕ) → j ≢ k → IsBare h' j → IsBare h j
  bare_set k v sets j ne bare = bare_same j (sets.others j ne) bare

  module _ (k : ℕ) (o : Option ℕ) (cuts : Cuts k o h h') where
    parent_of : (a : ℕ) (P : Type 0) → (o ≡ Some a → P) → (o ≢ Some a → P) → P
    parent_of a P is other =
        elim o as (λ p. o ≡ p → P) [
          | None ↦ λ e. other (λ f. absurd cc)
          | (Some p) ↦ λ e. same_or p a P (λ same. is (e ∙ ap Some same)) (λ ne. other (λ f. ne (let one : p ≡ a = cc in one)))
        ] refl

    not_cut : (j : ℕ) → IsSome (h' j) → j ≢ k
    not_cut j some is = (let none : h' j ≡ None = ap h' is ∙ cuts.gone in let some' = rw none at some in cc)

    pub bare_cut : (j : ℕ) → IsBare h' j → (o ≡ Some j) ⊎ ((j ≢ k) × IsBare h j)
    bare_cut j bare =
        let ne = not_cut j bare.there in
        parent_of j _ (λ is. inl is) (λ apart. inr (ne, bare_same j (cuts.others j ne apart) bare))

    some_map : {X Y : Type 0} (f : X → Y) (p : Option X) → IsSome (option_map f p) → IsSome p
    some_map f None some = some_along None (option_map f None) refl some
    some_map f (Some x) some = refl

    pub fewer_cut : (j : ℕ) → IsSome (h' j) → IsSome (h j)
    fewer_cut j some =
        let ne = not_cut j some in
        parent_of j (IsSome (h j))
        (λ is. some_map (λ (m : Node V). record m { children = revise (unless_is k) m.children }) (h j) (some_along _ (h' j) (sym (cuts.above j is ne)) some))
        (λ apart. some_along (h j) (h' j) (sym (cuts.others j ne apart)) some)

-- a node with a child is not bare
pub linked : {V : Type 0} (h : Heap V) (at : ℕ) (c : Field) (k : ℕ) → child h at c ≡ Some k → (j : ℕ) → IsBare h j → j ≢ at
linked h at c k e j bare is = (let none : child h at c ≡ None = ap (λ (i : ℕ). child h i c) (sym is) ∙ bare.leaf c in cc)

pub none_linked : (m : Links) → ((c : Field) → get m c ≡ None) → len m ≡ 0
none_linked m none =
    ap len (same_map component_cmp-total component_cmp-antisymmetric m empty (λ c. none c ∙ sym (get-empty component_cmp c))) ∙ len-empty component_cmp ℕ

pub made_or : {E : Type 0} {P : ℕ → Type 0} {Q X : Type 0} (r : Result ℕ E) (j : ℕ) → IfOk r P → OnErr r Q → ((k : ℕ) → P k → (j ≡ k) ⊎ X) → (Q → X) → (r ≡ Ok j) ⊎ X
made_or {E} {X = X} (Ok k) j ok err good bad =
    let answer : ℕ → Result ℕ E = λ i. Ok i in
    elim (good k ok) as (λ _. (answer k ≡ answer j) ⊎ X) [ (inl is) ↦ inl (ap answer (sym is)) | (inr x) ↦ inr x ]
made_or (Err e) j ok err good bad = inr (bad err)
