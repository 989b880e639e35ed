-- Changes of the value of a single node.
use Rattle.std.proofs.Common.{◌≡◌, ◌≢◌, ℕ, ◌+◌, ◌-◌, ◌≤◌, true, false, cond, List, [], ◌∷◌, length, refl, sym, ap, ◌∙◌, arith}
use Rattle.std.specs.Prelude.{Option, None, Some, IsSome, is_some, is_none, ◌&&◌}
use Rattle.std.specs.Option.{option_and_then, option_map}
use Rattle.std.specs.Ordering.{eq_by_cmp, is_eq}
use Rattle.std.specs.Cmp.{tied_itself}
use Rattle.std.specs.FinMap.{get, len, same_map}
use Rattle.ndn_tlv.specs.Element.{Field}
use Rattle.ndn_names.specs.Order.{name_cmp}
use Rattle.ndn_names.specs.Key.{name_cmp-total, name_cmp-antisymmetric}
use Rattle.name_trie.specs.declared.node.Node.{Node}
use Rattle.name_trie.specs.ByName.{revise, with_value}
use Rattle.name_trie.specs.Trie.{Heap, child, value, up, walk, lookup, table_of, Sound}
use Rattle.name_trie.specs.Changes.{Sets, Turns, IsBare}
use Rattle.name_trie.proofs.Revised.{equal, get-revise}
use Rattle.name_trie.proofs.Counts.{len_fewer, len_set, not_empty as not_zero}
use Rattle.name_trie.proofs.Changed.{same_or, one_walk, set_turns, there_by_up}
use Rattle.name_trie.proofs.Walks.{get-table, get-table_long, same_table, put_table, remove_table, by_length}

-- if the field `value` of the optional node `o` can be read and is not None, then `o` is not None,
-- so the field `parent` of `o` can be read too
pub up_of : {V : Type 0} (o : Option (Node V)) (x : V) → option_and_then (λ n. n.value) o ≡ Some x → (u : Option ℕ) × (option_map (λ n. n.parent) o ≡ Some u)
up_of None x e = absurd cc
up_of (Some n) x e = (n.parent, refl)

pub up_there : {V : Type 0} (f : Heap V) (j : ℕ) → IsSome (f j) → (u : Option ℕ) × (up f j ≡ Some u)
up_there {V} f j some = elim (f j) as (λ (o : Option (Node V)). IsSome o → (u : Option ℕ) × (option_map (λ n. n.parent) o ≡ Some u)) [ None ↦ λ e. absurd cc | (Some n) ↦ λ e. (n.parent, refl) ] some

-- two successive changes of the value of one node have the effect of the second change alone
pub turned_twice : {V : Type 0} (k : ℕ) (v w : Option V) (h h1 h2 : Heap V) → Turns k v h h1 → Turns k w h1 h2 → Turns k w h h2
turned_twice k v w h h1 h2 first second = record {
  links = λ a c. second.links a c ∙ first.links a c;
  ups = λ a. second.ups a ∙ first.ups a;
  here = second.here;
  others = λ a ne. second.others a ne ∙ first.others a ne;
}

module _ {V : Type 0} (k : ℕ) (v : Option V) (h h' : Heap V) (turns : Turns k v h h') where
  walk_same : (o : Option ℕ) (q : List Field) → walk h' o q ≡ walk h o q
  walk_same o [] = refl
  walk_same None (c ∷ cs) = walk_same None cs
  walk_same (Some a) (c ∷ cs) = ap (λ o. walk h' o cs) (turns.links a c) ∙ walk_same (child h a c) cs

  pub walk_turned : (root : Option ℕ) (q : List Field) → walk h' root q ≡ walk h root q
  walk_turned = walk_same

  elsewhere : (o : Option ℕ) → o ≢ Some k → option_and_then (value h') o ≡ option_and_then (value h) o
  elsewhere None ne = refl
  elsewhere (Some j) ne = turns.others j (λ e. ne (ap Some e))

  module _ (root : Option ℕ) (sound : Sound h root) where
    pub sound_turned : Sound h' root
    sound_turned = record {
      back = λ a c j e. turns.ups j ∙ sound.back a c j (sym (turns.links a c) ∙ e);
      once = λ a c d j e f. sound.once a c d j (sym (turns.links a c) ∙ e) (sym (turns.links a d) ∙ f);
      top = λ j e. turns.ups j ∙ sound.top j e;
      reach = λ j u e. let way = sound.reach j u (sym (turns.ups j) ∙ e) in (way.0, way.1, walk_same root way.0 ∙ way.2);
    }

    pub lookup_turned : (name : List Field) → walk h root name ≡ Some k → (q : List Field) → lookup h' root q ≡ cond (eq_by_cmp name_cmp q name) v (lookup h root q)
    lookup_turned name at q =
        ap (option_and_then (value h')) (walk_same root q)
        ∙ elim (eq_by_cmp name_cmp q name) as (λ b. eq_by_cmp name_cmp q name ≡ b → option_and_then (value h') (walk h root q) ≡ cond b v (lookup h root q)) [
          | true ↦ λ t.
              let one : q ≡ name = name_cmp-antisymmetric q name (equal _ t) in
              ap (option_and_then (value h')) (ap (walk h root) one ∙ at) ∙ turns.here
          | false ↦ λ t. elsewhere (walk h root q) (λ e.
              let one : q ≡ name = one_walk h root sound q name k e at in
              let tied : eq_by_cmp name_cmp q name ≡ true = ap (λ (n : List Field). eq_by_cmp name_cmp n name) one ∙ ap is_eq (tied_itself name_cmp-total name) in
              cc)
        ] refl

    -- if the node has neither a value before the change nor a value after it, no lookup changes
    pub unturned : value h k ≡ None → v ≡ None → (q : List Field) → lookup h' root q ≡ lookup h root q
    unturned was now q =
        ap (option_and_then (value h')) (walk_same root q) ∙ stays (walk h root q)
      where
        stays : (o : Option ℕ) → option_and_then (value h') o ≡ option_and_then (value h) o
        stays None = refl
        stays (Some j) = same_or j k (value h' j ≡ value h j) (λ e. ap (value h') e ∙ turns.here ∙ now ∙ sym (ap (value h) e ∙ was)) (λ ne. turns.others j ne)

    -- If the change removes the node's value, the number of names with a value decreases by one. If
    -- the change does not remove a value, the number of names with a value stays the same.
    pub count_turned : (change : V → Option V) → v ≡ option_and_then change (value h k)
        → len (table_of h' root) + cond (is_some (value h k) && is_none v) 1 0 ≡ len (table_of h root)
    count_turned change is =
        elim (value h k) as (λ w. value h k ≡ w → v ≡ option_and_then change w → len (table_of h' root) + cond (is_some w && is_none v) 1 0 ≡ len (table_of h root)) [
          | None ↦ λ was now.
              let same : len (table_of h' root) ≡ len (table_of h root) = ap len (same_table h h' root root (unturned was now)) in omega (arith, same)
          | (Some x) ↦ λ was now.
              let up_k = up_of (h k) x was in
              let way = sound.reach k up_k.0 up_k.1 in
              let at : get (table_of h root) way.0 ≡ Some x = get-table h root way.0 way.1 ∙ ap (option_and_then (value h)) way.2 ∙ was in
              let has : is_some (get (table_of h root) way.0) ≡ true = ap is_some at in
              elim v as (λ w. v ≡ w → len (table_of h' root) + cond (is_none w) 1 0 ≡ len (table_of h root)) [
                | None ↦ λ gone.
                    let fewer : len (table_of h root) - 1 ≡ len (table_of h' root) = len_fewer (table_of h root) way.0 has
                    ∙ sym (ap len (remove_table h h' root root way.0 way.1 (λ q. lookup_turned way.0 way.2 q ∙ ap (λ w. cond (eq_by_cmp name_cmp q way.0) w (lookup h root q)) gone))) in
                    let some = not_zero (table_of h root) way.0 has in
                    omega (arith, fewer, some)
                | (Some y) ↦ λ kept.
                    let same : len (table_of h root) ≡ len (table_of h' root) = len_set (table_of h root) way.0 y has
                    ∙ sym (ap len (put_table h h' root root way.0 y way.1 (λ q. lookup_turned way.0 way.2 q ∙ ap (λ w. cond (eq_by_cmp name_cmp q way.0) w (lookup h root q)) kept))) in
                    omega (arith, same)
              ] refl
        ] refl is

  pub bare_turned : (j : ℕ) → j ≢ k → IsBare h' j → IsBare h j
  bare_turned j ne bare =
      let u = up_there h' j bare.there in
      record {
        there = there_by_up h j u.0 (sym (turns.ups j) ∙ u.1);
        leaf = λ c. sym (turns.links j c) ∙ bare.leaf c;
        bare = sym (turns.others j ne) ∙ bare.bare;
      }

-- This module restates lemmas about a change of a node's value (`Turns`) for the case that the
-- value is set (`Sets`).
module _ {V : Type 0} (k : ℕ) (v : Option V) (h h' : Heap V) (sets : Sets k v h h') (root : Option ℕ) where
  pub walk_set : (q : List Field) → walk h' root q ≡ walk h root q
  walk_set = walk_turned k v h h' (set_turns k v h h' sets) root

  module _ (sound : Sound h root) where
    pub sound_set : Sound h' root
    sound_set = sound_turned k v h h' (set_turns k v h h' sets) root sound

    pub lookup_set : (name : List Field) → walk h root name ≡ Some k → (q : List Field) → lookup h' root q ≡ cond (eq_by_cmp name_cmp q name) v (lookup h root q)
    lookup_set = lookup_turned k v h h' (set_turns k v h h' sets) root sound

-- Let `name` have at most 64 components, and let its lookup in `h'` return the optional value `v`.
-- If the lookup of each other name returns the same in `h'` as in `h`, the table of `h'` is the
-- table of `h` with `v` for `name`.
pub with_value_table : {V : Type 0} (h h' : Heap V) (root root' : Option ℕ) (name : List Field) (v : Option V) → length name ≤ 64
    → ((q : List Field) → lookup h' root' q ≡ cond (eq_by_cmp name_cmp q name) v (lookup h root q))
    → table_of h' root' ≡ with_value (table_of h root) name v
with_value_table h h' root root' name None le is = remove_table h h' root root' name le is
with_value_table h h' root root' name (Some x) le is = put_table h h' root root' name x le is

-- if the lookup of each name in `h'` returns `change` applied to the value of the name in `h`, the
-- table of `h'` is the table of `h` with `change` applied to each value
module _ {V : Type 0} (change : V → Option V) (h h' : Heap V) (root root' : Option ℕ) where
  pub revise_table : ((q : List Field) → lookup h' root' q ≡ option_and_then change (lookup h root q)) → table_of h' root' ≡ revise change (table_of h root)
  revise_table is = same_map name_cmp-total name_cmp-antisymmetric _ _ (λ q.
      by_length h h' root root' _ _ q
      (λ le. get-table h' root' q le ∙ is q ∙ sym (get-revise name_cmp-antisymmetric change (table_of h root) q ∙ ap (option_and_then change) (get-table h root q le)))
      (λ le. get-table_long h' root' q le ∙ sym (get-revise name_cmp-antisymmetric change (table_of h root) q ∙ ap (option_and_then change) (get-table_long h root q le))))
