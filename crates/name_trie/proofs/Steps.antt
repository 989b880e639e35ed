-- How many steps a walk takes.
use Rattle.std.proofs.Common.{◌≡◌, ℕ, zero, suc, ◌+◌, ◌-◌, ◌≢◌, ◌<◌, ◌≤◌, true, false, List, [], ◌∷◌, ◌++◌, length, take, refl, sym, ap, subst, ◌∙◌, arith, ◌⊎◌, inl, inr, append_assoc, length-append}
use Rattle.std.proofs.lemmas.List.{append-nil}
use Rattle.std.specs.Prelude.{Option, None, Some, IsSome, cond}
use Rattle.std.specs.Option.{option_and_then, option_map}
use Rattle.std.specs.Ordering.{is_eq}
use Rattle.std.specs.Cmp.{tied_itself}
use Rattle.std.specs.FinMap.{find, get}
use Rattle.ndn_tlv.specs.Element.{Field}
use Rattle.ndn_names.specs.Order.{component_cmp}
use Rattle.ndn_names.specs.Key.{component_cmp-total}
use Rattle.name_trie.specs.Trie.{Heap, value, child, links, down, walk, lookup, steps, table_of, Sound}
use Rattle.name_trie.specs.Changes.{IsBare, IsHeld, IsTidy}
use Rattle.name_trie.specs.NameTable.{NameTable}
use Rattle.name_trie.specs.Steps.{IsBegun, TakesSteps}
use Rattle.name_trie.proofs.Along.{nothing_below}
use Rattle.name_trie.proofs.Changed.{live, one_walk, short_name, there_by_up, walk-append}
use Rattle.name_trie.proofs.Walks.{get-table, get_nothing, linked, walk_none}

module _ {V : Type 0} (h : Heap V) where
  steps_within : (o : Option ℕ) (name : List Field) → steps h o name ≤ length name
  steps_within None name = omega arith
  steps_within (Some k) [] = omega arith
  steps_within (Some k) (c ∷ cs) = omega (arith, steps_within (child h k c) cs)

  -- a walk passes a node at each step
  steps_there : (o : Option ℕ) (name : List Field) (m : ℕ) → m < steps h o name → (k : ℕ) × (walk h o (take m name) ≡ Some k)
  steps_there None name m lt = absurd (omega arith)
  steps_there (Some k) [] m lt = absurd (omega arith)
  steps_there (Some k) (c ∷ cs) zero lt = (k, refl)
  steps_there (Some k) (c ∷ cs) (suc m) lt = steps_there (child h k c) cs m (omega arith)

  -- a walk that ends before the node of the whole name ends where there is no node
  steps_end : (o : Option ℕ) (name : List Field) → steps h o name < length name → walk h o (take (steps h o name) name) ≡ None
  steps_end None name lt = refl
  steps_end (Some k) [] lt = absurd (omega arith)
  steps_end (Some k) (c ∷ cs) lt = steps_end (child h k c) cs (omega arith)

  module _ (root : Option ℕ) (sound : Sound h root) (held : Option (List Field × ℕ)) (is_held : IsHeld h root held) (tidy : IsTidy h (option_map (λ p. p.1) held)) where
    shown_table : NameTable V
    shown_table = record { table = table_of h root; prepared = option_map (λ p. p.0) held }

    -- if the reserved node is k, the reserved name is the name that leads to k
    reserved : (front : List Field) (k : ℕ) → walk h root front ≡ Some k → option_map (λ p. p.1) held ≡ Some k → option_map (λ p. p.0) held ≡ Some front
    reserved front k at = elim held as (λ (o : Option (List Field × ℕ)). IsHeld h root o → option_map (λ p. p.1) o ≡ Some k → option_map (λ p. p.0) o ≡ Some front) [
      | None ↦ λ leads e. absurd cc
      | (Some p) ↦ λ leads e. (let same : p.1 ≡ k = cc in ap Some (one_walk h root sound p.0 front k (leads ∙ ap Some same) at))
    ] is_held

    -- Some held name begins with the name of each node. If a node has neither a value nor children,
    -- it is the reserved node; if it has no value but children, take the first child.
    begun_at : (n : ℕ) (front : List Field) (k : ℕ) → walk h root front ≡ Some k → length front + n ≡ 65 → IsBegun shown_table front
    unfolding shown_table
    begun_at zero front k at len = absurd (let short = short_name h root sound front k at in omega (arith, short))
    begun_at (suc n) front k at len =
        let short = short_name h root sound front k at in
        elim (value h k) as (λ (v : Option V). value h k ≡ v → IsBegun shown_table front) [
          | (Some x) ↦ λ e.
              let is : get (table_of h root) front ≡ Some x = get-table h root front short ∙ ap (option_and_then (value h)) at ∙ e in
              ([], inl (rw append-nil (rw is refl)))
          | None ↦ λ none. elim (links h k) as (λ (l : List (Field × ℕ)). links h k ≡ l → IsBegun shown_table front) [
            | [] ↦ λ e.
                let up_k = live h root sound front k at in
                let bare : IsBare h k = record {
                  there = there_by_up h k up_k.0 up_k.1;
                  leaf = λ c. sym (linked h (h k) c) ∙ ap (find component_cmp c) e;
                  bare = none;
                } in
                ([], inr (reserved front k at (tidy k bare) ∙ ap Some (sym (append-nil front))))
            | (l ∷ es) ↦ λ e.
                let link : child h k l.0 ≡ Some l.1 = sym (linked h (h k) l.0) ∙ ap (find component_cmp l.0) e
                ∙ ap (λ o. cond (is_eq o) (Some l.1) (find component_cmp l.0 es)) (tied_itself component_cmp-total l.0) in
                let below = begun_at n (front ++ l.0 ∷ []) l.1
                (walk-append h root front (l.0 ∷ []) ∙ ap (λ o. down h o l.0) at ∙ link)
                (omega (arith, length-append front (l.0 ∷ []), len)) in
                (l.0 ∷ below.0, subst (λ (q : List Field). IsSome (get (table_of h root) q) ⊎ (option_map (λ p. p.0) held ≡ Some q)) (append_assoc front (l.0 ∷ []) below.0) below.1)
          ] refl
        ] refl

    nothing_held : (o : Option (List Field × ℕ)) (q : List Field) → IsHeld h root o → walk h root q ≡ None → option_map (λ p. p.0) o ≢ Some q
    nothing_held None q leads none e = absurd cc
    nothing_held (Some p) q leads none e =
        let same : p.0 ≡ q = cc in
        let gone : walk h root p.0 ≡ None = ap (walk h root) same ∙ none in
        absurd cc

    -- if a name leads to no node, no held name begins with it
    not_begun : (front : List Field) → walk h root front ≡ None → ¬ IsBegun shown_table front
    unfolding shown_table
    not_begun front none begun =
        elim begun.1 as (λ _. ⊥) [
          | (inl some) ↦
              let gone : get (table_of h root) (front ++ begun.0) ≡ None = get_nothing h root (front ++ begun.0) (nothing_below h root front none begun.0) in
              let false_some = rw gone at some in absurd cc
          | (inr is) ↦ nothing_held held (front ++ begun.0) is_held (walk-append h root front begun.0 ∙ ap (λ o. walk h o begun.0) none ∙ walk_none h begun.0) is
        ]

    -- the steps of a walk are those that the table and the reserved name show
    pub takes_steps : (name : List Field) → TakesSteps (record { table = table_of h root; prepared = option_map (λ p. p.0) held }) name (steps h root name)
    unfolding shown_table
    takes_steps name = record {
      within = steps_within root name;
      begun = λ m lt.
          let there = steps_there root name m lt in
          let short = short_name h root sound (take m name) there.0 there.1 in
          begun_at (65 - length (take m name)) (take m name) there.0 there.1 (omega (arith, short));
      ended = λ lt. not_begun (take (steps h root name) name) (steps_end root name lt);
    }
