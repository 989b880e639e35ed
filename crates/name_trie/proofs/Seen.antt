-- What a visitor sees of a trie's values.
use Rattle.std.proofs.Common.{◌≡◌, ◌≢◌, ℕ, zero, ◌+◌, ◌-◌, ◌<◌, List, [], ◌∷◌, ◌++◌, length, take, get_or, fold, refl, sym, ap, ◌∙◌}
use Rattle.std.specs.Prelude.{Option, None, Some, map}
use Rattle.std.specs.Option.{option_and_then}
use Rattle.std.specs.FinMap.{entries}
use Rattle.std.proofs.lemmas.List.{map-append, take_more}
use Rattle.std.proofs.lemmas.List.Sums.{fold-append}
use Rattle.ndn_tlv.specs.Element.{Field}
use Rattle.name_trie.specs.declared.node.Node.{Node}
use Rattle.name_trie.specs.ByName.{with_entry}
use Rattle.name_trie.specs.Taken.{taken}
use Rattle.name_trie.specs.Trie.{Heap, links_of, below, rows, named}
use Rattle.name_trie.proofs.Listed.{below_more, rows_at}

module _ {V : Type 0} where
  values_named : (front : List Field) (rs : List (List Field × V)) → map (λ r. r.1) (named front rs) ≡ map (λ r. r.1) rs
  values_named front [] = refl
  values_named front (r ∷ rs) = ap (λ vs. r.1 ∷ vs) (values_named front rs)

  -- if a child `e` is added after the children `xs`, the values below `e` come after the values
  -- below `xs`
  values_more : (f : Option ℕ → List (List Field × V)) (xs : List (Field × ℕ)) (e : Field × ℕ)
      → map (λ r. r.1) (below f (xs ++ e ∷ [])) ≡ map (λ r. r.1) (below f xs) ++ map (λ r. r.1) (f (Some e.1))
  values_more f xs e =
      sym (values_named [] (below f (xs ++ e ∷ []))) ∙ ap (map (λ r. r.1)) (below_more [] f xs e)
      ∙ map-append (λ r. r.1) (named [] (below f xs)) (named (e.0 ∷ []) (f (Some e.1)))
      ∙ (λ i. values_named [] (below f xs) i ++ values_named (e.0 ∷ []) (f (Some e.1)) i)

  module _ {S : Type 0} (see : S → V → S) (s : S) where
    pub seen_more : (f : Option ℕ → List (List Field × V)) (items : List (Field × ℕ)) (i : ℕ) (row : Field × ℕ) → i < length items → row ≡ get_or items i row
        → fold see s (map (λ r. r.1) (below f (take (i + 1) items))) ≡ fold see (fold see s (map (λ r. r.1) (below f (take i items)))) (map (λ r. r.1) (f (Some row.1)))
    seen_more f items i row lt is =
        ap (λ xs. fold see s (map (λ r. r.1) (below f xs))) (take_more items i row lt ∙ ap (λ (r : Field × ℕ). take i items ++ r ∷ []) (sym is))
        ∙ ap (fold see s) (values_more f (take i items) row)
        ∙ fold-append see s (map (λ r. r.1) (below f (take i items))) (map (λ r. r.1) (f (Some row.1)))

    seen_first : (o : Option V) (rs : List (List Field × V)) → fold see s (map (λ r. r.1) (with_entry [] o rs)) ≡ fold see (taken see s o) (map (λ r. r.1) rs)
    seen_first None rs = refl
    seen_first (Some v) rs = refl

    -- a node's value is seen before the values below the node
    pub seen_there : (h : Heap V) (n k : ℕ) (node : Node V) → n ≢ zero → h k ≡ Some node
        → fold see s (map (λ r. r.1) (rows h n (Some k))) ≡ fold see (taken see s node.value) (map (λ r. r.1) (below (rows h (n - 1)) (entries node.children)))
    seen_there h n k node ne e =
        ap (λ rs. fold see s (map (λ r. r.1) rs))
        (rows_at h n k ne ∙ ap (λ (o : Option (Node V)). with_entry [] (option_and_then (λ n. n.value) o) (below (rows h (n - 1)) (links_of o))) e)
        ∙ seen_first node.value (below (rows h (n - 1)) (entries node.children))

    pub none_seen : (rs : List (List Field × V)) → rs ≡ [] → s ≡ fold see s (map (λ r. r.1) rs)
    none_seen rs e = sym (ap (λ rs. fold see s (map (λ r. r.1) rs)) e)
