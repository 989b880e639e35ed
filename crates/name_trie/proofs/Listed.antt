-- The rows of a trie in canonical order.
use Rattle.std.proofs.Common.{◌≡◌, ◌≢◌, ℕ, zero, suc, ◌+◌, ◌-◌, ◌<◌, Bool, true, false, List, [], ◌∷◌, ◌++◌, length, take, get_or, append_assoc, refl, sym, ap, subst, ◌∙◌, arith}
use lib.Dec.{T}
use Rattle.std.specs.Prelude.{Option, None, Some, map, ◌&&◌}
use Rattle.std.specs.declared.cmp.Ordering.TheVariants.{Less}
use Rattle.std.specs.Ordering.{is_lt, ordering_then}
use Rattle.std.specs.Cmp.{tied_itself}
use Rattle.std.specs.Option.{option_and_then}
use Rattle.std.specs.FinMap.{is_sorted, from_sorted, from_entries, entries, entries_sorted, entries-from_sorted, get-from_sorted, get-from_entries, same_map}
use Rattle.std.specs.FinMap.Entries.{below_all}
use Rattle.std.proofs.lemmas.List.{map-append, append-nil, take_more}
use Rattle.ndn_tlv.specs.Element.{Field}
use Rattle.ndn_names.specs.Order.{component_cmp, name_cmp}
use Rattle.ndn_names.specs.Key.{component_cmp-total, name_cmp-total, name_cmp-antisymmetric}
use Rattle.name_trie.specs.declared.node.Node.{Node}
use Rattle.name_trie.specs.ByName.{with_entry}
use Rattle.name_trie.specs.Trie.{Heap, value, links, links_of, below, rows, table_of, named}
use Rattle.ndn_names.proofs.Rows.{first_of, second_of, is_less}

both_of : (a b : Bool) → T a → T b → T (a && b)
both_of true b p q = q
both_of false b p q = p

lt_under : (c : Field) (a b : List Field) → T (is_lt (name_cmp a b)) → T (is_lt (name_cmp (c ∷ a) (c ∷ b)))
lt_under c a b h = subst (λ o. T (is_lt (ordering_then o (name_cmp a b)))) (sym (tied_itself component_cmp-total c)) h

lt_before : (c d : Field) (a b : List Field) → component_cmp c d ≡ Less → T (is_lt (name_cmp (c ∷ a) (d ∷ b)))
lt_before c d a b e = subst (λ o. T (is_lt (ordering_then o (name_cmp a b)))) (sym e) tt

module _ {V : Type 0} where
  below-append : (f : Option ℕ → List (List Field × V)) (xs ys : List (Field × ℕ)) → below f (xs ++ ys) ≡ below f xs ++ below f ys
  below-append f [] ys = refl
  below-append f (e ∷ xs) ys =
      ap (λ l. map (λ r. (e.0 ∷ r.0, r.1)) (f (Some e.1)) ++ l) (below-append f xs ys)
      ∙ sym (append_assoc (map (λ r. (e.0 ∷ r.0, r.1)) (f (Some e.1))) (below f xs) (below f ys))

  named_under : (front : List Field) (c : Field) (rs : List (List Field × V)) → named front (map (λ r. (c ∷ r.0, r.1)) rs) ≡ named (front ++ c ∷ []) rs
  named_under front c [] = refl
  named_under front c (r ∷ rs) =
      ap (λ (n : List Field). (n, r.1) ∷ named front (map (λ r. (c ∷ r.0, r.1)) rs)) (sym (append_assoc front (c ∷ []) r.0))
      ∙ ap (λ l. ((front ++ c ∷ []) ++ r.0, r.1) ∷ l) (named_under front c rs)

  -- if a child `e` is added after the children `xs`, the rows below `e` come after the rows below
  -- `xs`
  pub below_more : (front : List Field) (f : Option ℕ → List (List Field × V)) (xs : List (Field × ℕ)) (e : Field × ℕ)
      → named front (below f (xs ++ e ∷ [])) ≡ named front (below f xs) ++ named (front ++ e.0 ∷ []) (f (Some e.1))
  below_more front f xs e =
      ap (named front) (below-append f xs (e ∷ []) ∙ ap (λ l. below f xs ++ l) (append-nil (map (λ r. (e.0 ∷ r.0, r.1)) (f (Some e.1)))))
      ∙ map-append (λ r. (front ++ r.0, r.1)) (below f xs) (map (λ r. (e.0 ∷ r.0, r.1)) (f (Some e.1)))
      ∙ ap (λ l. named front (below f xs) ++ l) (named_under front e.0 (f (Some e.1)))

  pub first_named : (front : List Field) (o : Option V) (rs : List (List Field × V)) → named front (with_entry [] o rs) ≡ with_entry front o [] ++ named front rs
  first_named front None rs = refl
  first_named front (Some x) rs = ap (λ (n : List Field). (n, x) ∷ named front rs) (append-nil front)

  pub rows_none : (h : Heap V) (o : Option ℕ) → rows h zero o ≡ []
  unfolding rows
  rows_none h o = refl

  pub rows_at : (h : Heap V) (n : ℕ) (k : ℕ) → n ≢ zero → rows h n (Some k) ≡ with_entry [] (value h k) (below (rows h (n - 1)) (links h k))
  unfolding rows
  rows_at h zero k ne = absurd (ne refl)
  rows_at h (suc n) k ne = let one : n ≡ suc n - 1 = omega arith in ap (λ (m : ℕ). with_entry [] (value h k) (below (rows h m) (links h k))) one

  -- ---- the rows of a trie are in canonical order

  below_under : (c : Field) (a : List Field) (rs : List (List Field × V)) → T (below_all name_cmp a rs) → T (below_all name_cmp (c ∷ a) (map (λ r. (c ∷ r.0, r.1)) rs))
  below_under c a [] h = tt
  below_under c a (r ∷ rs) h = both_of _ _ (lt_under c a r.0 (first_of _ _ h)) (below_under c a rs (second_of _ _ h))

  below_both : (x : List Field) (rs ss : List (List Field × V)) → T (below_all name_cmp x rs) → T (below_all name_cmp x ss) → T (below_all name_cmp x (rs ++ ss))
  below_both x [] ss h k = k
  below_both x (r ∷ rs) ss h k = both_of _ _ (first_of _ _ h) (below_both x rs ss (second_of _ _ h) k)

  before_under : (c d : Field) (a : List Field) (rs : List (List Field × V)) → component_cmp c d ≡ Less → T (below_all name_cmp (c ∷ a) (map (λ r. (d ∷ r.0, r.1)) rs))
  before_under c d a [] e = tt
  before_under c d a (r ∷ rs) e = both_of _ _ (lt_before c d a r.0 e) (before_under c d a rs e)

  before_below : (c : Field) (a : List Field) (f : Option ℕ → List (List Field × V)) (es : List (Field × ℕ)) → T (below_all component_cmp c es) → T (below_all name_cmp (c ∷ a) (below f es))
  before_below c a f [] h = tt
  before_below c a f (e ∷ es) h =
      below_both (c ∷ a) (map (λ r. (e.0 ∷ r.0, r.1)) (f (Some e.1))) (below f es)
      (before_under c e.0 a (f (Some e.1)) (is_less (component_cmp c e.0) (first_of _ _ h)))
      (before_below c a f es (second_of _ _ h))

  sorted_under : (c : Field) (rs ss : List (List Field × V)) → T (is_sorted name_cmp rs) → T (is_sorted name_cmp ss)
      → ((a : List Field) → T (below_all name_cmp (c ∷ a) ss)) → T (is_sorted name_cmp (map (λ r. (c ∷ r.0, r.1)) rs ++ ss))
  sorted_under c [] ss h k before = k
  sorted_under c (r ∷ rs) ss h k before =
      both_of _ _ (below_both (c ∷ r.0) (map (λ r. (c ∷ r.0, r.1)) rs) ss (below_under c r.0 rs (first_of _ _ h)) (before r.0)) (sorted_under c rs ss (second_of _ _ h) k before)

  sorted_below : (f : Option ℕ → List (List Field × V)) → ((o : Option ℕ) → T (is_sorted name_cmp (f o))) → (es : List (Field × ℕ)) → T (is_sorted component_cmp es) → T (is_sorted name_cmp (below f es))
  sorted_below f each [] h = tt
  sorted_below f each (e ∷ es) h =
      sorted_under e.0 (f (Some e.1)) (below f es) (each (Some e.1)) (sorted_below f each es (second_of _ _ h)) (λ a. before_below e.0 a f es (first_of _ _ h))

  root_below : (f : Option ℕ → List (List Field × V)) (es : List (Field × ℕ)) → T (below_all name_cmp [] (below f es))
  root_below f [] = tt
  root_below f (e ∷ es) = below_both [] (map (λ r. (e.0 ∷ r.0, r.1)) (f (Some e.1))) (below f es) (under (f (Some e.1))) (root_below f es)
    where
      under : (rs : List (List Field × V)) → T (below_all name_cmp [] (map (λ r. (e.0 ∷ r.0, r.1)) rs))
      under [] = tt
      under (r ∷ rs) = under rs

  links_in_order : (o : Option (Node V)) → T (is_sorted component_cmp (links_of o))
  links_in_order None = tt
  links_in_order (Some n) = entries_sorted n.children

  with_first : (o : Option V) (rs : List (List Field × V)) → T (below_all name_cmp [] rs) → T (is_sorted name_cmp rs) → T (is_sorted name_cmp (with_entry [] o rs))
  with_first None rs low h = h
  with_first (Some x) rs low h = both_of _ _ low h

  sorted_rows : (h : Heap V) (n : ℕ) (o : Option ℕ) → T (is_sorted name_cmp (rows h n o))
  unfolding rows
  sorted_rows h zero o = tt
  sorted_rows h (suc n) None = tt
  sorted_rows h (suc n) (Some k) =
      with_first (value h k) (below (rows h n) (links h k)) (root_below (rows h n) (links h k))
      (sorted_below (rows h n) (λ o. sorted_rows h n o) (links h k) (links_in_order (h k)))

  -- the rows of the trie are the entries of its table
  pub entries_table : (h : Heap V) (root : Option ℕ) → entries (table_of h root) ≡ rows h 65 root
  unfolding table_of
  entries_table h root =
      let sorted = sorted_rows h 65 root in
      let same : from_entries {R = name_cmp} (rows h 65 root) ≡ from_sorted (rows h 65 root) =
      same_map name_cmp-total name_cmp-antisymmetric _ _ (λ q. get-from_entries name_cmp-total (rows h 65 root) q ∙ sym (get-from_sorted name_cmp (rows h 65 root) q sorted)) in
      ap entries same ∙ entries-from_sorted name_cmp (rows h 65 root) sorted

  -- ---- the rows at and below a node

  pub rows_missing : (h : Heap V) (n k : ℕ) → h k ≡ None → rows h n (Some k) ≡ []
  unfolding rows
  rows_missing h zero k e = refl
  rows_missing h (suc n) k e = ap (λ (o : Option (Node V)). with_entry [] (option_and_then (λ n. n.value) o) (below (rows h n) (links_of o))) e

  pub rows_there : (h : Heap V) (n k : ℕ) (node : Node V) (front : List Field) → n ≢ zero → h k ≡ Some node
      → named front (rows h n (Some k)) ≡ with_entry front node.value [] ++ named front (below (rows h (n - 1)) (entries node.children))
  rows_there h n k node front ne e =
      ap (named front) (rows_at h n k ne ∙ ap (λ (o : Option (Node V)). with_entry [] (option_and_then (λ n. n.value) o) (below (rows h (n - 1)) (links_of o))) e)
      ∙ first_named front node.value (below (rows h (n - 1)) (entries node.children))

  pub none_more : (l : List (List Field × V)) (front : List Field) (rs : List (List Field × V)) → rs ≡ [] → l ≡ l ++ named front rs
  none_more l front rs e = sym (ap (λ rs. l ++ named front rs) e ∙ append-nil l)

  pub one_more : (l0 l l' : List (List Field × V)) (front name : List Field) (f : Option ℕ → List (List Field × V)) (items : List (Field × ℕ)) (i : ℕ) (row : Field × ℕ)
      → i < length items → row ≡ get_or items i row → name ≡ front ++ row.0 ∷ []
      → l ≡ l0 ++ named front (below f (take i items)) → l' ≡ l ++ named name (f (Some row.1)) → l' ≡ l0 ++ named front (below f (take (i + 1) items))
  one_more l0 l l' front name f items i row lt is n before after =
      after ∙ ap (λ x. x ++ named name (f (Some row.1))) before
      ∙ append_assoc l0 (named front (below f (take i items))) (named name (f (Some row.1)))
      ∙ ap (λ x. l0 ++ x)
      (ap (λ (x : List Field). named front (below f (take i items)) ++ named x (f (Some row.1))) n
      ∙ sym (below_more front f (take i items) row)
      ∙ ap (λ x. named front (below f x)) (ap (λ (r : Field × ℕ). take i items ++ r ∷ []) is ∙ sym (take_more items i row lt)))

  pub named_nothing : (rs : List (List Field × V)) → named [] rs ≡ rs
  named_nothing [] = refl
  named_nothing (r ∷ rs) = ap (λ l. r ∷ l) (named_nothing rs)

  pub rows_rootless : (h : Heap V) (n : ℕ) → rows h n None ≡ []
  unfolding rows
  rows_rootless h zero = refl
  rows_rootless h (suc n) = refl
