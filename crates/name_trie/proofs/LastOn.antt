-- The last value on a walk along a name is the value of the longest prefix of the name that has a
-- value.
use Rattle.std.proofs.Common.{◌≡◌, ℕ, zero, suc, ◌≤◌, List, [], ◌∷◌, length, take, refl, sym, ap, ◌∙◌, arith}
use Rattle.std.proofs.lemmas.List.{length-take-le}
use Rattle.std.specs.Prelude.{Option, None, Some}
use Rattle.std.specs.Option.{option_or}
use Rattle.ndn_tlv.specs.Element.{Field}
use Rattle.name_trie.specs.ByName.{longest, longest_within}
use Rattle.name_trie.specs.Trie.{Heap, child, value, down, lookup, table_of, last_on}
use Rattle.name_trie.proofs.Walks.{lookup_none, get-table}

module _ {X : Type 0} where
  or_or : (a b c : Option X) → option_or (option_or a b) c ≡ option_or a (option_or b c)
  or_or None b c = refl
  or_or (Some x) b c = refl

  or_nothing : (o : Option X) → option_or o None ≡ o
  or_nothing None = refl
  or_nothing (Some x) = refl

module _ {V : Type 0} (h : Heap V) where
  -- Of the prefixes of `name` that have at most n components and a value: the value of the longest
  -- one. Walks along the prefixes begin at the node `o`.
  abbrev within : Option ℕ → List Field → ℕ → Option V
  within o name zero = lookup h o []
  within o name (suc n) = option_or (lookup h o (take (suc n) name)) (within o name n)

  within_none : (name : List Field) (n : ℕ) → within None name n ≡ None
  within_none name zero = refl
  within_none name (suc n) = ap (λ o. option_or o (within None name n)) (lookup_none h (take (suc n) name)) ∙ within_none name n

  within_cons : (o : Option ℕ) (c : Field) (cs : List Field) (n : ℕ) → within o (c ∷ cs) (suc n) ≡ option_or (within (down h o c) cs n) (lookup h o [])
  within_cons o c cs zero = refl
  within_cons o c cs (suc n) =
      ap (option_or (lookup h (down h o c) (take (suc n) cs))) (within_cons o c cs n)
      ∙ sym (or_or (lookup h (down h o c) (take (suc n) cs)) (within (down h o c) cs n) (lookup h o []))

  last_is : (o : Option ℕ) (q : List Field) (best : Option V) → last_on h o q best ≡ option_or (within o q (length q)) best
  last_is None q best = sym (ap (λ o. option_or o best) (within_none q (length q)))
  last_is (Some k) [] best = refl
  last_is (Some k) (c ∷ cs) best =
      last_is (child h k c) cs (option_or (value h k) best)
      ∙ sym (or_or (within (child h k c) cs (length cs)) (value h k) best)
      ∙ ap (λ o. option_or o best) (sym (within_cons (Some k) c cs (length cs)))

  module _ (root : Option ℕ) (name : List Field) (small : length name ≤ 64) where
    within_is : (n : ℕ) → n ≤ length name → longest_within (table_of h root) name n ≡ within root name n
    within_is zero le = get-table h root [] (omega arith)
    within_is (suc n) le =
        let len : length (take (suc n) name) ≡ suc n = length-take-le (suc n) name le in
        ap (λ o. option_or o (longest_within (table_of h root) name n)) (get-table h root (take (suc n) name) (omega (arith, len)))
        ∙ ap (option_or (lookup h root (take (suc n) name))) (within_is n (omega (arith, le)))

    pub longest_is : last_on h root name None ≡ longest (table_of h root) name
    longest_is = last_is root name None ∙ or_nothing (within root name (length name)) ∙ sym (within_is (length name) (omega arith))
