-- Lookups in a flattened map, and the number of keys in this map. Flattening turns a map from names
-- to rows into a map from keys to values.
use Rattle.std.proofs.Common.{◌≡◌, ℕ, suc, ◌+◌, Bool, true, false, cond, List, [], ◌∷◌, ◌++◌, map, length, refl, sym, ap, subst, ◌∙◌, arith, length-append}
use lib.Dec.{T}
use Rattle.std.specs.Prelude.{Option, None, Some, ◌&&◌}
use Rattle.std.specs.Option.{option_and_then, option_or}
use Rattle.std.specs.declared.cmp.Ordering.{Ordering}
use Rattle.std.specs.declared.cmp.Ordering.TheVariants.{Less, Equal, Greater}
use Rattle.std.specs.Ordering.{eq_by_cmp, is_eq, is_lt}
use Rattle.std.specs.Cmp.{IsTotalOrder, tied_itself}
use Rattle.std.specs.FinMap.{FinMap, insert, remove, entries-insert, get-insert, get-remove, same_map, IsAntisymmetric, find, put, is_sorted, get, len, entries, get-entries, len-entries, entries_sorted, entries-from_sorted, get-from_sorted}
use Rattle.std.specs.FinMap.Entries.{below_all, by_order}
use Rattle.name_trie.specs.Flat.{flat, flatten, size_of, total}
use Rattle.ndn_names.proofs.Rows.{first_of, second_of, is_less}
use Rattle.name_trie.proofs.Revised.{find_below}

both_of : (a b : Bool) → T a → T b → T (a && b)
both_of true b p q = q
both_of false b p q = p

less_so : (o : Ordering) → o ≡ Less → T (is_lt o)
less_so o e = subst (λ r. T (is_lt r)) (sym e) tt

find_append : {K X : Type 0} (Q : K → K → Ordering) (k : K) (a b : List (K × X)) → find Q k (a ++ b) ≡ option_or (find Q k a) (find Q k b)
find_append Q k [] b = refl
find_append Q k (e ∷ a) b = elim (eq_by_cmp Q k e.0) as (λ t. cond t (Some e.1) (find Q k (a ++ b)) ≡ option_or (cond t (Some e.1) (find Q k a)) (find Q k b)) [ true ↦ refl | false ↦ find_append Q k a b ]

below_append : {K X : Type 0} (Q : K → K → Ordering) (k : K) (a b : List (K × X)) → T (below_all Q k a) → T (below_all Q k b) → T (below_all Q k (a ++ b))
below_append Q k [] b p q = q
below_append Q k (e ∷ a) b p q = both_of _ _ (first_of _ _ p) (below_append Q k a b (second_of _ _ p) q)

no_row : {X : Type 0} (b : Bool) → ◌≡◌ {A = Option X} None (cond b None None)
no_row true = refl
no_row false = refl

-- `key` makes a key from a name and an inner key; keys are compared by name, then by inner key
pub record MakesKeys {N F K : Type 0} (R : N → N → Ordering) (S : F → F → Ordering) (Q : K → K → Ordering) (key : N → F → K) (name : K → N) (rest : K → F) : Type 0 where
  pub ties : (k : K) (n : N) (f : F) → eq_by_cmp Q k (key n f) ≡ (eq_by_cmp R (name k) n && eq_by_cmp S (rest k) f)
  pub by_name : (n m : N) (f g : F) → R n m ≡ Less → Q (key n f) (key m g) ≡ Less
  pub by_rest : (n : N) (f g : F) → S f g ≡ Less → Q (key n f) (key n g) ≡ Less

module _ {N F K X : Type 0} {R : N → N → Ordering} {S : F → F → Ordering} {Q : K → K → Ordering} (key : N → F → K) (name : K → N) (rest : K → F) (makes : MakesKeys R S Q key name rest) where
  abbrev row : N → List (F × X) → List (K × X)
  row n rs = map (λ r. (key n r.0, r.1)) rs

  find_row : (k : K) (n : N) (rs : List (F × X)) → find Q k (row n rs) ≡ cond (eq_by_cmp R (name k) n) (find S (rest k) rs) None
  find_row k n [] = no_row (eq_by_cmp R (name k) n)
  find_row k n (r ∷ rs) =
      (λ i. cond (makes.ties k n r.0 i) (Some r.1) (find_row k n rs i))
      ∙ elim (eq_by_cmp R (name k) n) as (λ b. cond (b && eq_by_cmp S (rest k) r.0) (Some r.1) (cond b (find S (rest k) rs) None) ≡ cond b (cond (eq_by_cmp S (rest k) r.0) (Some r.1) (find S (rest k) rs)) None) [ true ↦ refl | false ↦ refl ]

  below_row : (n m : N) (f : F) (rs : List (F × X)) → R n m ≡ Less → T (below_all Q (key n f) (row m rs))
  below_row n m f [] less = tt
  below_row n m f (r ∷ rs) less = both_of _ _ (less_so _ (makes.by_name n m f r.0 less)) (below_row n m f rs less)

  below_flat : (n : N) (f : F) (es : List (N × FinMap S X)) → T (below_all R n es) → T (below_all Q (key n f) (flat key es))
  below_flat n f [] h = tt
  below_flat n f (e ∷ es) h =
      below_append Q (key n f) (row e.0 (entries e.1)) (flat key es) (below_row n e.0 f (entries e.1) (is_less _ (first_of _ _ h))) (below_flat n f es (second_of _ _ h))

  below_same : (n : N) (f : F) (rs : List (F × X)) → T (below_all S f rs) → T (below_all Q (key n f) (row n rs))
  below_same n f [] h = tt
  below_same n f (r ∷ rs) h = both_of _ _ (less_so _ (makes.by_rest n f r.0 (is_less _ (first_of _ _ h)))) (below_same n f rs (second_of _ _ h))

  sorted_row : (n : N) (rs : List (F × X)) (es : List (N × FinMap S X)) → T (is_sorted S rs) → T (below_all R n es) → T (is_sorted Q (flat key es)) → T (is_sorted Q (row n rs ++ flat key es))
  sorted_row n [] es s h t = t
  sorted_row n (r ∷ rs) es s h t =
      both_of _ _ (below_append Q (key n r.0) (row n rs) (flat key es) (below_same n r.0 rs (first_of _ _ s)) (below_flat n r.0 es h)) (sorted_row n rs es (second_of _ _ s) h t)

  pub sorted_flat : (es : List (N × FinMap S X)) → T (is_sorted R es) → T (is_sorted Q (flat key es))
  sorted_flat [] h = tt
  sorted_flat (e ∷ es) h = sorted_row e.0 (entries e.1) es (entries_sorted e.1) (first_of _ _ h) (sorted_flat es (second_of _ _ h))

  module _ (anti : IsAntisymmetric R) where
    find_flat : (k : K) (es : List (N × FinMap S X)) → T (is_sorted R es) → find Q k (flat key es) ≡ option_and_then (λ r. get r (rest k)) (find R (name k) es)
    find_flat k [] h = refl
    find_flat k (e ∷ es) h =
        let later = find_flat k es (second_of _ _ h) in
        find_append Q k (row e.0 (entries e.1)) (flat key es) ∙ (λ i. option_or (find_row k e.0 (entries e.1) i) (later i))
        ∙ elim (R (name k) e.0) as (λ o. R (name k) e.0 ≡ o → option_or (cond (is_eq o) (find S (rest k) (entries e.1)) None) (option_and_then (λ r. get r (rest k)) (find R (name k) es))
        ≡ option_and_then (λ r. get r (rest k)) (cond (is_eq o) (Some e.1) (find R (name k) es))) [
          | Less ↦ λ _. refl
          | Equal ↦ λ tie.
              let none : find R (name k) es ≡ None = ap (λ n. find R n es) (anti (name k) e.0 tie) ∙ find_below R e.0 es (first_of _ _ h) in
              ap (λ o. option_or (find S (rest k) (entries e.1)) (option_and_then (λ r. get r (rest k)) o)) none ∙ or_none (find S (rest k) (entries e.1)) ∙ sym (get-entries e.1 (rest k))
          | Greater ↦ λ _. refl
        ] refl
      where
        or_none : (o : Option X) → option_or o None ≡ o
        or_none None = refl
        or_none (Some x) = refl

    -- for a key that is made from a name and an inner key, the flattened map has the value that the
    -- row of this name has for this inner key
    pub get-flatten : (t : FinMap R (FinMap S X)) (k : K) → get (flatten Q key t) k ≡ option_and_then (λ r. get r (rest k)) (get t (name k))
    unfolding flatten
    get-flatten t k =
        get-from_sorted Q (flat key (entries t)) k (sorted_flat (entries t) (entries_sorted t)) ∙ find_flat k (entries t) (entries_sorted t)
        ∙ ap (option_and_then (λ r. get r (rest k))) (sym (get-entries t (name k)))

  length-map_row : (n : N) (rs : List (F × X)) → length (row n rs) ≡ length rs
  length-map_row n [] = refl
  length-map_row n (r ∷ rs) = ap (λ (m : ℕ). suc m) (length-map_row n rs)

  length_flat : (es : List (N × FinMap S X)) → length (flat key es) ≡ total (λ r. len r) es
  length_flat [] = refl
  length_flat (e ∷ es) =
      length-append (row e.0 (entries e.1)) (flat key es)
      ∙ (λ i. (length-map_row e.0 (entries e.1) ∙ sym (len-entries e.1)) i + length_flat es i)

  -- the number of keys of the flattened map is the total number of entries in the rows
  pub len-flatten : (t : FinMap R (FinMap S X)) → len (flatten Q key t) ≡ total (λ r. len r) (entries t)
  unfolding flatten
  len-flatten t =
      len-entries (flatten Q key t) ∙ ap length (entries-from_sorted Q (flat key (entries t)) (sorted_flat (entries t) (entries_sorted t))) ∙ length_flat (entries t)

pub below_less : {K X : Type 0} {R : K → K → Ordering} → IsTotalOrder R → (x y : K) (es : List (K × X)) → R x y ≡ Less → T (below_all R y es) → T (below_all R x es)
below_less o x y [] p h = tt
below_less {R = R} o x y (e ∷ es) p h = both_of _ _ (less_so (R x e.0) (o.trans x y e.0 p (is_less _ (first_of _ _ h)))) (below_less o x y es p (second_of _ _ h))

-- ---- the total size of all values after one value changes

module _ {N V : Type 0} {R : N → N → Ordering} (order : IsTotalOrder R) (anti : IsAntisymmetric R) (size : V → ℕ) where
  pub total_put : (k : N) (v : V) (es : List (N × V)) → T (is_sorted R es) → total size (put R k v es) + size_of size (find R k es) ≡ total size es + size v
  total_put k v [] h = omega arith
  total_put k v (e ∷ es) h =
      elim (R k e.0) as (λ o. R k e.0 ≡ o → total size (by_order o ((k, v) ∷ e ∷ es) ((e.0, v) ∷ es) (e ∷ put R k v es)) + size_of size (cond (is_eq o) (Some e.1) (find R k es)) ≡ size e.1 + total size es + size v) [
        | Less ↦ λ less. let none = ap (size_of size) (find_below R k es (below_less order k e.0 es less (first_of _ _ h))) in omega (arith, none)
        | Equal ↦ λ _. omega arith
        | Greater ↦ λ _. omega (arith, total_put k v es (second_of _ _ h))
      ] refl

  -- inserting a value adds the size of this value to the total size, and subtracts the size of the
  -- old value of the key
  pub total-insert : (t : FinMap R V) (k : N) (v : V) → total size (entries (insert t k v)) + size_of size (get t k) ≡ total size (entries t) + size v
  total-insert t k v = (λ i. total size (entries-insert order t k v i) + size_of size (get-entries t k i)) ∙ total_put k v (entries t) (entries_sorted t)

  -- removing a key subtracts the size of the key's value from the total size
  pub total-remove : (t : FinMap R V) (k : N) → total size (entries (remove t k)) + size_of size (get t k) ≡ total size (entries t)
  total-remove t k =
      elim (get t k) as (λ o. get t k ≡ o → total size (entries (remove t k)) + size_of size o ≡ total size (entries t)) [
        | None ↦ λ none. ap (λ (m : FinMap R V). total size (entries m) + 0) (same_map order anti (remove t k) t (λ q. get-remove order t k q ∙ lacks q none)) ∙ omega arith
        | (Some v) ↦ λ is.
            let back : insert (remove t k) k v ≡ t = same_map order anti (insert (remove t k) k v) t (λ q. get-insert order (remove t k) k v q ∙ ap (cond (eq_by_cmp R q k) (Some v)) (get-remove order t k q) ∙ has q v is) in
            let gone : size_of size (get (remove t k) k) ≡ 0 = ap (size_of size) (get-remove order t k k ∙ ap (λ b. cond b None (get t k)) (ap is_eq (tied_itself order k))) in
            let whole = total-insert (remove t k) k v in
            omega (arith, whole, gone, ap (λ (m : FinMap R V). total size (entries m)) back)
      ] refl
    where
      lacks : (q : N) → get t k ≡ None → cond (eq_by_cmp R q k) None (get t q) ≡ get t q
      lacks q none = elim (R q k) as (λ o. R q k ≡ o → cond (is_eq o) None (get t q) ≡ get t q) [ Less ↦ λ _. refl | Equal ↦ λ tie. sym (ap (get t) (anti q k tie) ∙ none) | Greater ↦ λ _. refl ] refl

      has : (q : N) (v : V) → get t k ≡ Some v → cond (eq_by_cmp R q k) (Some v) (cond (eq_by_cmp R q k) None (get t q)) ≡ get t q
      has q v is = elim (R q k) as (λ o. R q k ≡ o → cond (is_eq o) (Some v) (cond (is_eq o) None (get t q)) ≡ get t q) [ Less ↦ λ _. refl | Equal ↦ λ tie. sym (ap (get t) (anti q k tie) ∙ is) | Greater ↦ λ _. refl ] refl
