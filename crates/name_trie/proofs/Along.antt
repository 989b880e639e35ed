-- How a visitor changes or removes values on a walk along a name.
use Rattle.std.proofs.Common.{◌≡◌, ℕ, true, false, Bool, cond, List, [], ◌∷◌, ◌++◌, append_assoc, ◌+◌, ◌≤◌, refl, sym, ap, ◌∙◌, arith, length-append}
use Rattle.std.proofs.lemmas.List.{append-nil}
use Rattle.std.specs.Prelude.{Option, None, Some, length}
use Rattle.std.specs.Option.{option_and_then}
use Rattle.std.specs.Ordering.{eq_by_cmp, is_eq, ordering_then}
use Rattle.std.specs.declared.cmp.Ordering.{Ordering}
use Rattle.std.specs.declared.cmp.Ordering.TheVariants.{Less, Equal, Greater}
use Rattle.ndn_tlv.specs.Element.{Field}
use Rattle.ndn_names.specs.Order.{component_cmp, name_cmp}
use Rattle.ndn_names.specs.Key.{component_cmp-antisymmetric, name_cmp-antisymmetric}
use Rattle.name_trie.specs.Trie.{Heap, value, down, walk, lookup, Sound}
use Rattle.name_trie.specs.Changes.{Turns}
use Rattle.name_trie.specs.Taken.{taken, taken_along, changed_along}
use Rattle.name_trie.proofs.Revised.{equal}
use Rattle.name_trie.proofs.Changed.{walk-append}
use Rattle.name_trie.proofs.Closed.{lookup_turned}
use Rattle.name_trie.proofs.Walks.{walk_none, lookup_none}

module _ {V : Type 0} (own below : V → Option V) where
  -- how a walk along `front` changes the value of the name `q` before the walk visits the node of
  -- `front`
  abbrev pub before : List Field → List Field → V → Option V
  before q front = changed_along Some below q front

  deeper : (o p : Ordering) (f g : V → Option V) → cond (is_eq o) (cond (is_eq p) f g) Some ≡ cond (is_eq (ordering_then o p)) f (cond (is_eq o) g Some)
  deeper Less p f g = refl
  deeper Equal p f g = refl
  deeper Greater p f g = refl

  same_either : (b : Bool) → ◌≡◌ {A = V → Option V} Some (cond b Some Some)
  same_either true = refl
  same_either false = refl

  pub next_before : (q front : List Field) (c : Field) → before q (front ++ c ∷ []) ≡ cond (eq_by_cmp name_cmp q front) below (before q front)
  next_before [] [] c = refl
  next_before [] (x ∷ front) c = refl
  next_before (d ∷ []) [] c = sym (same_either (eq_by_cmp component_cmp d c))
  next_before (d ∷ e ∷ q) [] c = sym (same_either (eq_by_cmp component_cmp d c))
  next_before (d ∷ q) (x ∷ front) c =
      ap (λ f. cond (eq_by_cmp component_cmp d x) f Some) (next_before q front c)
      ∙ deeper (component_cmp d x) (name_cmp q front) below (before q front)

  pub last_own : (q name : List Field) → changed_along own below q name ≡ cond (eq_by_cmp name_cmp q name) own (before q name)
  last_own [] [] = refl
  last_own [] (c ∷ name) = refl
  last_own (d ∷ q) [] = refl
  last_own (d ∷ q) (c ∷ name) =
      ap (λ f. cond (eq_by_cmp component_cmp d c) f Some) (last_own q name)
      ∙ deeper (component_cmp d c) (name_cmp q name) own (before q name)

  pub before_itself : (name : List Field) → before name name ≡ Some
  before_itself [] = refl
  before_itself (c ∷ name) = ap (λ f. cond (eq_by_cmp component_cmp c c) f Some) (before_itself name) ∙ sym (same_either (eq_by_cmp component_cmp c c))

  -- if the name `front` leads to no node, a walk along `front ++ rest` changes only the values of
  -- the proper prefixes of `front`, each by `below`
  pub cut_short : (h : Heap V) (o : Option ℕ) (front rest : List Field) → walk h o front ≡ None → (q : List Field)
      → option_and_then (changed_along own below q (front ++ rest)) (lookup h o q) ≡ option_and_then (before q front) (lookup h o q)
  cut_short h o [] rest none q =
      let nothing : lookup h o q ≡ None = ap (λ p. lookup h p q) none ∙ lookup_none h q in
      ap (option_and_then (changed_along own below q rest)) nothing ∙ sym (ap (option_and_then (before q [])) nothing)
  cut_short h o (c ∷ front) rest none [] = refl
  cut_short h o (c ∷ front) rest none (d ∷ q) =
      elim (component_cmp d c) as (λ r. component_cmp d c ≡ r → option_and_then (cond (is_eq r) (changed_along own below q (front ++ rest)) Some) (lookup h (down h o d) q)
      ≡ option_and_then (cond (is_eq r) (before q front) Some) (lookup h (down h o d) q)) [
        | Less ↦ λ _. refl
        | Equal ↦ λ tie. cut_short h (down h o d) front rest (ap (λ (x : Field). walk h (down h o x) front) (component_cmp-antisymmetric d c tie) ∙ none) q
        | Greater ↦ λ _. refl
      ] refl

  module _ (h0 h h' : Heap V) (root : Option ℕ) (sound : Sound h root) (front : List Field) (k : ℕ) (at : walk h root front ≡ Some k)
      (was : (q : List Field) → lookup h root q ≡ option_and_then (before q front) (lookup h0 root q)) where
    -- the node k, to which the name `front` leads, still has the value that `front` had before the
    -- walk
    pub still : value h k ≡ lookup h0 root front
    still = ap (option_and_then (value h)) (sym at) ∙ was front ∙ ap (λ f. option_and_then f (lookup h0 root front)) (before_itself front) ∙ whole (lookup h0 root front)
      where
        whole : (o : Option V) → option_and_then Some o ≡ o
        whole None = refl
        whole (Some x) = refl

    pub step_along : (f : V → Option V) → Turns k (option_and_then f (value h k)) h h' → (q : List Field)
        → lookup h' root q ≡ option_and_then (cond (eq_by_cmp name_cmp q front) f (before q front)) (lookup h0 root q)
    step_along f turns q =
        lookup_turned k (option_and_then f (value h k)) h h' turns root sound front at q
        ∙ elim (eq_by_cmp name_cmp q front) as (λ b. eq_by_cmp name_cmp q front ≡ b
        → cond b (option_and_then f (value h k)) (lookup h root q) ≡ option_and_then (cond b f (before q front)) (lookup h0 root q)) [
          | true ↦ λ t. ap (option_and_then f) (still ∙ ap (lookup h0 root) (sym (name_cmp-antisymmetric q front (equal _ t))))
          | false ↦ λ _. was q
        ] refl

module _ {S V : Type 0} (own below : S → V → S) where
  -- if no name that begins with `front` has a value, a walk from `front` along `rest` does not
  -- change the visitor
  pub nothing_taken : (s : S) (f : List Field → Option V) (front rest : List Field) → ((p : List Field) → f (front ++ p) ≡ None) → taken_along own below s f front rest ≡ s
  nothing_taken s f front [] none = ap (taken own s) (ap f (sym (append-nil front)) ∙ none [])
  nothing_taken s f front (c ∷ rest) none =
      ap (λ (o : Option V). taken_along own below (taken below s o) f (front ++ c ∷ []) rest) (ap f (sym (append-nil front)) ∙ none [])
      ∙ nothing_taken s f (front ++ c ∷ []) rest (λ p. ap f (append_assoc front (c ∷ []) p) ∙ none (c ∷ p))

  -- if `f` and `g` agree on all names of at most `bound` components, and `front ++ rest` has at
  -- most `bound` components, walks from `front` along `rest` over `f` and over `g` leave the
  -- visitor in the same state
  pub taken_same : (s : S) (f g : List Field → Option V) (front rest : List Field) (bound : ℕ)
      → ((q : List Field) → length q ≤ bound → f q ≡ g q) → length front + length rest ≤ bound → taken_along own below s f front rest ≡ taken_along own below s g front rest
  taken_same s f g front [] bound same le = ap (taken own s) (same front (omega arith))
  taken_same s f g front (c ∷ rest) bound same le =
      ap (λ (o : Option V). taken_along own below (taken below s o) f (front ++ c ∷ []) rest) (same front (omega arith))
      ∙ taken_same (taken below s (g front)) f g (front ++ c ∷ []) rest bound same (omega (arith, length-append front (c ∷ [])))

pub nothing_below : {V : Type 0} (h : Heap V) (root : Option ℕ) (front : List Field) → walk h root front ≡ None → (p : List Field) → lookup h root (front ++ p) ≡ None
nothing_below h root front none p = ap (option_and_then (value h)) (walk-append h root front p ∙ ap (λ o. walk h o p) none ∙ walk_none h p)
