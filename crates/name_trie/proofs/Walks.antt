-- What walks find in a trie, and the table that the trie represents.
use Rattle.std.proofs.Common.{◌≡◌, ℕ, zero, suc, ◌<◌, ◌≤◌, Bool, true, false, cond, List, [], ◌∷◌, ◌++◌, length, refl, sym, ap, subst, ◌∙◌, arith, ltb}
use lib.Dec.{T}
use Rattle.std.specs.Prelude.{Option, None, Some, map}
use Rattle.std.specs.Option.{option_and_then, option_or}
use Rattle.std.specs.declared.cmp.Ordering.{Ordering}
use Rattle.std.specs.declared.cmp.Ordering.TheVariants.{Less, Equal, Greater}
use Rattle.std.specs.Ordering.{eq_by_cmp, is_eq, ordering_then}
use Rattle.std.specs.FinMap.{find, is_sorted, get, insert, remove, entries_sorted, get-entries, empty, get-empty, get-from_entries, get-insert, get-remove, same_map}
use Rattle.std.specs.FinMap.Entries.{below_all}
use Rattle.std.proofs.lemmas.Bool.{ltb-true, ltb-false}
use Rattle.ndn_tlv.specs.Element.{Field}
use Rattle.ndn_names.specs.Order.{component_cmp, name_cmp}
use Rattle.ndn_names.specs.Key.{component_cmp-antisymmetric, name_cmp-total, name_cmp-antisymmetric}
use Rattle.name_trie.specs.declared.node.Node.{Node}
use Rattle.name_trie.specs.ByName.{ByName, with_entry}
use Rattle.name_trie.specs.Trie.{Heap, child, value, links, links_of, walk, lookup, below, rows, table_of}
use Rattle.ndn_names.proofs.Rows.{first_of, second_of}
use Rattle.name_trie.proofs.Revised.{equal, find_below}

still_other : (o p : Ordering) → is_eq o ≡ false → is_eq (ordering_then o p) ≡ false
still_other Less p e = refl
still_other Equal p e = absurd cc
still_other Greater p e = refl

module _ {X : Type 0} where
  or_none : (o : Option X) → option_or o None ≡ o
  or_none None = refl
  or_none (Some x) = refl

  or_cond : (b : Bool) (x : X) (o p : Option X) → cond b (Some x) (option_or o p) ≡ option_or (cond b (Some x) o) p
  or_cond true x o p = refl
  or_cond false x o p = refl

  -- the rows with the component `e` in front of each name
  under : Field → List (List Field × X) → List (List Field × X)
  under e rs = map (λ r. (e ∷ r.0, r.1)) rs

  under_same : (c : Field) (cs : List Field) (e : Field) (rs rest : List (List Field × X)) → component_cmp c e ≡ Equal
      → find name_cmp (c ∷ cs) (map (λ r. (e ∷ r.0, r.1)) rs ++ rest) ≡ option_or (find name_cmp cs rs) (find name_cmp (c ∷ cs) rest)
  under_same c cs e [] rest t = refl
  under_same c cs e (r ∷ rs) rest t =
      ap (λ o. cond (is_eq (ordering_then o (name_cmp cs r.0))) (Some r.1) (find name_cmp (c ∷ cs) (map (λ r. (e ∷ r.0, r.1)) rs ++ rest))) t
      ∙ ap (cond (is_eq (name_cmp cs r.0)) (Some r.1)) (under_same c cs e rs rest t)
      ∙ or_cond (is_eq (name_cmp cs r.0)) r.1 (find name_cmp cs rs) (find name_cmp (c ∷ cs) rest)

  under_other : (c : Field) (cs : List Field) (e : Field) (rs rest : List (List Field × X)) → is_eq (component_cmp c e) ≡ false
      → find name_cmp (c ∷ cs) (map (λ r. (e ∷ r.0, r.1)) rs ++ rest) ≡ find name_cmp (c ∷ cs) rest
  under_other c cs e [] rest t = refl
  under_other c cs e (r ∷ rs) rest t =
      ap (λ b. cond b (Some r.1) (find name_cmp (c ∷ cs) (map (λ r. (e ∷ r.0, r.1)) rs ++ rest))) (still_other (component_cmp c e) (name_cmp cs r.0) t)
      ∙ under_other c cs e rs rest t

  under_none : (e : Field) (rs rest : List (List Field × X)) → find name_cmp [] (map (λ r. (e ∷ r.0, r.1)) rs ++ rest) ≡ find name_cmp [] rest
  under_none e [] rest = refl
  under_none e (r ∷ rs) rest = under_none e rs rest

  module _ (f : Option ℕ → List (List Field × X)) where
    below_none : (es : List (Field × ℕ)) → find name_cmp [] (below f es) ≡ None
    below_none [] = refl
    below_none (e ∷ es) = under_none e.0 (f (Some e.1)) (below f es) ∙ below_none es

    below_is : (c : Field) (cs : List Field) (es : List (Field × ℕ)) → T (is_sorted component_cmp es)
        → find name_cmp (c ∷ cs) (below f es) ≡ option_and_then (λ k. find name_cmp cs (f (Some k))) (find component_cmp c es)
    below_is c cs [] h = refl
    below_is c cs (e ∷ es) h =
        let rest = below_is c cs es (second_of _ _ h) in
        let then : ℕ → Option X = λ k. find name_cmp cs (f (Some k)) in
        elim (is_eq (component_cmp c e.0)) as (λ b. is_eq (component_cmp c e.0) ≡ b
        → find name_cmp (c ∷ cs) (below f (e ∷ es)) ≡ option_and_then then (cond b (Some e.1) (find component_cmp c es))) [
          | true ↦ λ t.
              let tie = equal (component_cmp c e.0) t in
              let one : e.0 ≡ c = sym (component_cmp-antisymmetric c e.0 tie) in
              let none : find component_cmp c es ≡ None = find_below component_cmp c es (subst (λ x. T (below_all component_cmp x es)) one (first_of _ _ h)) in
              under_same c cs e.0 (f (Some e.1)) (below f es) tie
              ∙ ap (option_or (find name_cmp cs (f (Some e.1)))) (rest ∙ ap (option_and_then then) none)
              ∙ or_none (find name_cmp cs (f (Some e.1)))
          | false ↦ λ t. under_other c cs e.0 (f (Some e.1)) (below f es) t ∙ rest
        ] refl

module _ {V : Type 0} (h : Heap V) where
  pub walk_none : (q : List Field) → walk h None q ≡ None
  walk_none [] = refl
  walk_none (c ∷ cs) = walk_none cs

  pub lookup_none : (q : List Field) → lookup h None q ≡ None
  lookup_none q = ap (option_and_then (value h)) (walk_none q)

  pub linked : (o : Option (Node V)) (c : Field) → find component_cmp c (links_of o) ≡ option_and_then (λ n. get n.children c) o
  linked None c = refl
  linked (Some n) c = sym (get-entries n.children c)

  links_sorted : (o : Option (Node V)) → T (is_sorted component_cmp (links_of o))
  links_sorted None = tt
  links_sorted (Some n) = entries_sorted n.children

  first_row : (o : Option V) (f : Option ℕ → List (List Field × V)) (es : List (Field × ℕ)) → find name_cmp [] (with_entry [] o (below f es)) ≡ o
  first_row None f es = below_none f es
  first_row (Some x) f es = refl

  other_row : (o : Option V) (c : Field) (cs : List Field) (rest : List (List Field × V)) → find name_cmp (c ∷ cs) (with_entry [] o rest) ≡ find name_cmp (c ∷ cs) rest
  other_row None c cs rest = refl
  other_row (Some x) c cs rest = refl

  rows_find : (n : ℕ) (o : Option ℕ) (q : List Field) → length q < n → find name_cmp q (rows h n o) ≡ lookup h o q
  unfolding rows
  rows_find zero o q lt = absurd (omega arith)
  rows_find (suc n) None q lt = sym (lookup_none q)
  rows_find (suc n) (Some k) [] lt = first_row (value h k) (rows h n) (links h k)
  rows_find (suc n) (Some k) (c ∷ cs) lt =
      other_row (value h k) c cs (below (rows h n) (links h k))
      ∙ below_is (rows h n) c cs (links h k) (links_sorted (h k))
      ∙ ap (option_and_then (λ j. find name_cmp cs (rows h n (Some j)))) (linked (h k) c)
      ∙ elim (child h k c) as (λ o. option_and_then (λ j. find name_cmp cs (rows h n (Some j))) o ≡ lookup h o cs) [
        | None ↦ sym (lookup_none cs)
        | (Some j) ↦ rows_find n (Some j) cs (omega arith)
      ]

  rows_long : (n : ℕ) (o : Option ℕ) (q : List Field) → n ≤ length q → find name_cmp q (rows h n o) ≡ None
  unfolding rows
  rows_long zero o q le = refl
  rows_long (suc n) None q le = refl
  rows_long (suc n) (Some k) [] le = absurd (omega arith)
  rows_long (suc n) (Some k) (c ∷ cs) le =
      other_row (value h k) c cs (below (rows h n) (links h k))
      ∙ below_is (rows h n) c cs (links h k) (links_sorted (h k))
      ∙ elim (find component_cmp c (links h k)) as (λ o. option_and_then (λ j. find name_cmp cs (rows h n (Some j))) o ≡ None) [
        | None ↦ refl
        | (Some j) ↦ rows_long n (Some j) cs (omega arith)
      ]

  pub get-table : (root : Option ℕ) (q : List Field) → length q ≤ 64 → get (table_of h root) q ≡ lookup h root q
  unfolding table_of
  get-table root q le = get-from_entries name_cmp-total (rows h 65 root) q ∙ rows_find 65 root q (omega arith)

  pub get-table_long : (root : Option ℕ) (q : List Field) → 65 ≤ length q → get (table_of h root) q ≡ None
  unfolding table_of
  get-table_long root q le = get-from_entries name_cmp-total (rows h 65 root) q ∙ rows_long 65 root q le

  -- if a name leads to no value, the table has no value for the name
  pub get_nothing : (root : Option ℕ) (q : List Field) → lookup h root q ≡ None → get (table_of h root) q ≡ None
  get_nothing root q none =
      elim (ltb (length q) 65) as (λ t. ltb (length q) 65 ≡ t → get (table_of h root) q ≡ None) [
        | true ↦ λ t. get-table root q (omega (arith, ltb-true (length q) 65 t)) ∙ none
        | false ↦ λ t. get-table_long root q (omega (arith, ltb-false (length q) 65 t))
      ] refl

module _ {V : Type 0} (h h' : Heap V) (root root' : Option ℕ) where
  pub by_length : {X : Type 0} (a b : Option X) (q : List Field) → (length q ≤ 64 → a ≡ b) → (65 ≤ length q → a ≡ b) → a ≡ b
  by_length a b q short long =
      elim (ltb (length q) 65) as (λ t. ltb (length q) 65 ≡ t → a ≡ b) [
        | true ↦ λ t. short (omega (arith, ltb-true (length q) 65 t))
        | false ↦ λ t. long (omega (arith, ltb-false (length q) 65 t))
      ] refl

  -- if `f` turns the value that `q` leads to in `h` into the value that `q` leads to in `h'`, then
  -- `f` turns the value of `q` in the table of `h` into the value of `q` in the table of `h'`
  pub get_changed : (f : V → Option V) (q : List Field) → lookup h' root' q ≡ option_and_then f (lookup h root q) → get (table_of h' root') q ≡ option_and_then f (get (table_of h root) q)
  get_changed f q is = by_length _ _ q
      (λ le. get-table h' root' q le ∙ is ∙ sym (ap (option_and_then f) (get-table h root q le)))
      (λ le. get-table_long h' root' q le ∙ sym (ap (option_and_then f) (get-table_long h root q le)))

  pub same_table : ((q : List Field) → lookup h' root' q ≡ lookup h root q) → table_of h' root' ≡ table_of h root
  same_table same = same_map name_cmp-total name_cmp-antisymmetric _ _ (λ q.
      by_length _ _ q (λ le. get-table h' root' q le ∙ same q ∙ sym (get-table h root q le))
      (λ le. get-table_long h' root' q le ∙ sym (get-table_long h root q le)))

  long_other : {X : Type 0} (name q : List Field) (o p : Option X) → length name ≤ 64 → 65 ≤ length q → cond (eq_by_cmp name_cmp q name) o p ≡ p
  long_other name q o p le long =
      elim (eq_by_cmp name_cmp q name) as (λ b. eq_by_cmp name_cmp q name ≡ b → cond b o p ≡ p) [
        | true ↦ λ t. absurd (let one : q ≡ name = name_cmp-antisymmetric q name (equal _ t) in omega (arith, ap length one))
        | false ↦ λ t. refl
      ] refl

  pub put_table : (name : List Field) (v : V) → length name ≤ 64
      → ((q : List Field) → lookup h' root' q ≡ cond (eq_by_cmp name_cmp q name) (Some v) (lookup h root q))
      → table_of h' root' ≡ insert (table_of h root) name v
  put_table name v le is = same_map name_cmp-total name_cmp-antisymmetric _ _ (λ q.
      by_length _ _ q
      (λ short. get-table h' root' q short ∙ is q ∙ ap (cond (eq_by_cmp name_cmp q name) (Some v)) (sym (get-table h root q short)) ∙ sym (get-insert name_cmp-total (table_of h root) name v q))
      (λ long. get-table_long h' root' q long ∙ sym (get-insert name_cmp-total (table_of h root) name v q ∙ long_other name q (Some v) _ le long ∙ get-table_long h root q long)))

  pub remove_table : (name : List Field) → length name ≤ 64
      → ((q : List Field) → lookup h' root' q ≡ cond (eq_by_cmp name_cmp q name) None (lookup h root q))
      → table_of h' root' ≡ remove (table_of h root) name
  remove_table name le is = same_map name_cmp-total name_cmp-antisymmetric _ _ (λ q.
      by_length _ _ q
      (λ short. get-table h' root' q short ∙ is q ∙ ap (cond (eq_by_cmp name_cmp q name) None) (sym (get-table h root q short)) ∙ sym (get-remove name_cmp-total (table_of h root) name q))
      (λ long. get-table_long h' root' q long ∙ sym (get-remove name_cmp-total (table_of h root) name q ∙ long_other name q None _ le long ∙ get-table_long h root q long)))

pub empty_table : {V : Type 0} (h : Heap V) → table_of h None ≡ empty
empty_table h = same_map name_cmp-total name_cmp-antisymmetric _ _ (λ q.
    by_length h h None None _ _ q
    (λ le. get-table h None q le ∙ lookup_none h q ∙ sym (get-empty name_cmp q))
    (λ le. get-table_long h None q le ∙ sym (get-empty name_cmp q)))

-- removing a name without a value changes nothing
pub remove_absent : {V : Type 0} (m : ByName V) (name : List Field) → get m name ≡ None → m ≡ remove m name
remove_absent m name none = same_map name_cmp-total name_cmp-antisymmetric _ _ (λ q.
    sym (get-remove name_cmp-total m name q
    ∙ elim (eq_by_cmp name_cmp q name) as (λ b. eq_by_cmp name_cmp q name ≡ b → cond b None (get m q) ≡ get m q) [
      | true ↦ λ t. sym (ap (get m) (name_cmp-antisymmetric q name (equal _ t)) ∙ none)
      | false ↦ λ t. refl
    ] refl))
