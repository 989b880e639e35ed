-- How a change of a trie's nodes affects walks and lookups.
use Rattle.std.proofs.Common.{◌≡◌, ◌≢◌, ◌≤◌, ℕ, true, false, cond, List, [], ◌∷◌, ◌++◌, length, refl, sym, ap, subst, ◌∙◌, arith, eqb, ◌⊎◌, inl, inr}
use Rattle.std.specs.Prelude.{Option, None, Some, reverse, IsSome, Result, Ok, Err, IfOk, OnOk, OnErr}
use Rattle.std.specs.Option.{option_and_then, option_map}
use Rattle.std.specs.Ordering.{eq_by_cmp, is_eq}
use Rattle.std.specs.FinMap.{get, get-empty, get-insert}
use Rattle.std.proofs.lemmas.Bool.{eqb-true, eqb-false, eq-eqb, ne_eqb}
use Rattle.std.proofs.lemmas.List.{reverse-reverse, reverse-append, length-append}
use Rattle.ndn_tlv.specs.Element.{Field}
use Rattle.ndn_names.specs.Order.{component_cmp}
use Rattle.ndn_names.specs.Key.{component_cmp-total, component_cmp-antisymmetric}
use Rattle.std.specs.Cmp.{tied_itself}
use Rattle.name_trie.specs.declared.node.Node.{Node}
use Rattle.name_trie.specs.ByName.{revise}
use Rattle.name_trie.specs.Links.{unless, unless_is}
use Rattle.name_trie.specs.Trie.{Heap, child, value, up, down, walk, Sound}
use Rattle.name_trie.specs.Changes.{Joins, Starts, Cuts, IsBare, Sets, Turns, Lacks, SameLookups, IsHeld, HasRoomBelow}
use Rattle.name_trie.proofs.Revised.{equal, get-revise}
use Rattle.name_trie.proofs.Walks.{walk_none}

-- ---- an index j, or None if j is k (`unless_is`)

pub unless_is_self : (k : ℕ) → unless_is k k ≡ None
unless_is_self k = ap (λ b. cond b None (Some k)) (eq-eqb k k refl)

pub unless_is_other : (k j : ℕ) → j ≢ k → unless_is k j ≡ Some j
unless_is_other k j ne = ap (λ b. cond b None (Some j)) (ne_eqb j k ne)

pub unless_other : (k : ℕ) (o : Option ℕ) → o ≢ Some k → unless k o ≡ o
unless_other k None ne = refl
unless_other k (Some j) ne = unless_is_other k j (λ e. ne (ap Some e))

pub unless_some : (k : ℕ) (o : Option ℕ) (j : ℕ) → unless k o ≡ Some j → (o ≡ Some j) × (j ≢ k)
unless_some k None j e = absurd cc
unless_some k (Some i) j e =
    elim (eqb i k) as (λ b. eqb i k ≡ b → cond b None (Some i) ≡ Some j → (Some i ≡ Some j) × (j ≢ k)) [
      | true ↦ λ t e. absurd cc
      | false ↦ λ t e. (e, λ is. let same : i ≡ k = (let one : i ≡ j = cc in one ∙ is) in eqb-false i k t same)
    ] refl e

-- if `P` follows from `j ≡ k`, and also follows from `j ≢ k`, then `P` is true
pub same_or : (j k : ℕ) (P : Type 0) → (j ≡ k → P) → (j ≢ k → P) → P
same_or j k P same other =
    elim (eqb j k) as (λ b. eqb j k ≡ b → P) [
      | true ↦ λ t. same (eqb-true j k t)
      | false ↦ λ t. other (eqb-false j k t)
    ] refl

module _ {V : Type 0} (h : Heap V) where
  pub walk-append : (o : Option ℕ) (xs ys : List Field) → walk h o (xs ++ ys) ≡ walk h (walk h o xs) ys
  walk-append o [] ys = refl
  walk-append o (c ∷ xs) ys = walk-append (down h o c) xs ys

  down_some : (o : Option ℕ) (c : Field) (k : ℕ) → down h o c ≡ Some k → (a : ℕ) × (o ≡ Some a) × (child h a c ≡ Some k)
  down_some None c k e = absurd cc
  down_some (Some a) c k e = (a, refl, e)

  climb : Option ℕ → List Field → Option ℕ
  climb o [] = o
  climb o (c ∷ cs) = down h (climb o cs) c

  climb_is : (o : Option ℕ) (cs : List Field) → walk h o (reverse cs) ≡ climb o cs
  unfolding climb
  climb_is o [] = refl
  climb_is o (c ∷ cs) = ap (walk h o) (reverse-append (c ∷ []) cs) ∙ walk-append o (reverse cs) (c ∷ []) ∙ ap (λ o. down h o c) (climb_is o cs)

  module _ (root : Option ℕ) (sound : Sound h root) where
    one_climb : (p q : List Field) (k : ℕ) → climb root p ≡ Some k → climb root q ≡ Some k → p ≡ q
    unfolding climb
    one_climb [] [] k e f = refl
    one_climb [] (d ∷ q) k e f =
        (let at = down_some (climb root q) d k f in let low = sound.back at.0 d k at.2 in let high = sound.top k e in absurd cc)
    one_climb (c ∷ p) [] k e f =
        (let at = down_some (climb root p) c k e in let low = sound.back at.0 c k at.2 in let high = sound.top k f in absurd cc)
    one_climb (c ∷ p) (d ∷ q) k e f =
        let a = down_some (climb root p) c k e in
        let b = down_some (climb root q) d k f in
        let up_a = sound.back a.0 c k a.2 in
        let up_b = sound.back b.0 d k b.2 in
        let one : a.0 ≡ b.0 = cc in
        let step : c ≡ d = sound.once b.0 c d k (subst (λ (x : ℕ). child h x c ≡ Some k) one a.2) b.2 in
        let rest : p ≡ q = one_climb p q a.0 a.1 (b.1 ∙ ap Some (sym one)) in
        λ i. step i ∷ rest i

    -- at most one name leads to each node
    pub one_walk : (p q : List Field) (k : ℕ) → walk h root p ≡ Some k → walk h root q ≡ Some k → p ≡ q
    one_walk p q k e f =
        let turned : reverse p ≡ reverse q = one_climb (reverse p) (reverse q) k
        (sym (climb_is root (reverse p)) ∙ ap (walk h root) (reverse-reverse p) ∙ e)
        (sym (climb_is root (reverse q)) ∙ ap (walk h root) (reverse-reverse q) ∙ f) in
        sym (reverse-reverse p) ∙ ap reverse turned ∙ reverse-reverse q

    live_climb : (p : List Field) (k : ℕ) → climb root p ≡ Some k → (u : Option ℕ) × (up h k ≡ Some u)
    unfolding climb
    live_climb [] k e = (None, sound.top k e)
    live_climb (c ∷ p) k e = (let a = down_some (climb root p) c k e in (Some a.0, sound.back a.0 c k a.2))

    -- if a name leads to the index k, there is a node k
    pub live : (p : List Field) (k : ℕ) → walk h root p ≡ Some k → (u : Option ℕ) × (up h k ≡ Some u)
    live p k e = live_climb (reverse p) k (sym (climb_is root (reverse p)) ∙ ap (walk h root) (reverse-reverse p) ∙ e)

    -- a name that leads to a node has at most 64 components
    pub short_name : (p : List Field) (k : ℕ) → walk h root p ≡ Some k → length p ≤ 64
    short_name p k e =
        let up_k = live p k e in
        let way = sound.reach k up_k.0 up_k.1 in
        subst (λ (q : List Field). length q ≤ 64) (one_walk way.0 p k way.2 e) way.1

-- ---- walks and lookups after the removal of a node that has neither a value nor children

module _ {V : Type 0} (k : ℕ) (h : Heap V) (root : Option ℕ) (h' : Heap V) (root' : Option ℕ) (lacks : Lacks k h root h' root') where
  down_lacks : (o : Option ℕ) (c : Field) → down h' (unless k o) c ≡ unless k (down h o c)
  down_lacks None c = refl
  down_lacks (Some j) c =
      same_or j k (down h' (unless_is k j) c ≡ unless k (child h j c))
      (λ e. ap (λ (o : Option ℕ). down h' o c) (ap (unless_is k) e ∙ unless_is_self k) ∙ sym (ap (unless k) (ap (λ (i : ℕ). child h i c) e ∙ lacks.leaf c)))
      (λ ne. ap (λ (o : Option ℕ). down h' o c) (unless_is_other k j ne) ∙ lacks.links j c)

  walk_lacks : (o : Option ℕ) (q : List Field) → walk h' (unless k o) q ≡ unless k (walk h o q)
  walk_lacks o [] = refl
  walk_lacks o (c ∷ cs) = ap (λ o. walk h' o cs) (down_lacks o c) ∙ walk_lacks (down h o c) cs

  value_lacks : (o : Option ℕ) → option_and_then (value h') (unless k o) ≡ option_and_then (value h) o
  value_lacks None = refl
  value_lacks (Some j) =
      same_or j k (option_and_then (value h') (unless_is k j) ≡ value h j)
      (λ e. ap (option_and_then (value h')) (ap (unless_is k) e ∙ unless_is_self k) ∙ sym (ap (value h) e ∙ lacks.bare))
      (λ ne. ap (option_and_then (value h')) (unless_is_other k j ne) ∙ lacks.values j)

  pub walks_lacking : (q : List Field) → walk h' root' q ≡ unless k (walk h root q)
  walks_lacking q = ap (λ o. walk h' o q) lacks.roots ∙ walk_lacks root q

  -- removing a node that has neither a value nor children changes no lookup
  pub lookups_lacking : SameLookups h root h' root'
  lookups_lacking q = ap (option_and_then (value h')) (walks_lacking q) ∙ value_lacks (walk h root q)

  -- a walk that ends at a node other than k still ends at this node after k is removed
  pub walks_kept : (q : List Field) (j : ℕ) → j ≢ k → walk h root q ≡ Some j → walk h' root' q ≡ Some j
  walks_kept q j ne e = walks_lacking q ∙ ap (unless k) e ∙ unless_is_other k j ne

  pub sound_lacking : Sound h root → Sound h' root'
  sound_lacking sound = record {
    back = λ a c j e.
        let was = unless_some k (child h a c) j (sym (lacks.links a c) ∙ e) in
        lacks.ups j was.1 ∙ sound.back a c j was.0;
    once = λ a c d j e f.
        let was = unless_some k (child h a c) j (sym (lacks.links a c) ∙ e) in
        let had = unless_some k (child h a d) j (sym (lacks.links a d) ∙ f) in
        sound.once a c d j was.0 had.0;
    top = λ j e.
        let was = unless_some k root j (sym lacks.roots ∙ e) in
        lacks.ups j was.1 ∙ sound.top j was.0;
    reach = λ j u e.
        let ne : j ≢ k = λ is. (let none : up h' j ≡ None = ap (up h') is ∙ lacks.gone in cc) in
        let way = sound.reach j u (sym (lacks.ups j ne) ∙ e) in
        (way.0, way.1, walks_kept way.0 j ne way.2);
  }

  pub kept_lacking : (q : List Field) (kept : Option ℕ) → kept ≢ Some k → walk h root q ≡ kept → walk h' root' q ≡ kept
  kept_lacking q kept ne e = walks_lacking q ∙ ap (unless k) e ∙ unless_other k kept ne

  pub walks_before : (q : List Field) (j : ℕ) → walk h' root' q ≡ Some j → walk h root q ≡ Some j
  walks_before q j e = (unless_some k (walk h root q) j (sym (walks_lacking q) ∙ e)).0

-- ---- walks and lookups after a value is set

module _ {V : Type 0} (k : ℕ) (v : Option V) (h h' : Heap V) (sets : Sets k v h h') where
  same_children : (a : ℕ) (c : Field) → child h' a c ≡ child h a c
  same_children a c =
      same_or a k (child h' a c ≡ child h a c)
      (λ e. ap (λ (i : ℕ). child h' i c) e ∙ ap (option_and_then (λ n. get n.children c)) (sets.here)
      ∙ sym (ap (λ (i : ℕ). child h i c) e ∙ ap (option_and_then (λ n. get n.children c)) sets.there))
      (λ ne. ap (option_and_then (λ n. get n.children c)) (sets.others a ne))

  same_up : (a : ℕ) → up h' a ≡ up h a
  same_up a =
      same_or a k (up h' a ≡ up h a)
      (λ e. ap (up h') e ∙ ap (option_map (λ n. n.parent)) sets.here ∙ sym (ap (up h) e ∙ ap (option_map (λ n. n.parent)) sets.there))
      (λ ne. ap (option_map (λ n. n.parent)) (sets.others a ne))

  value_set : value h' k ≡ v
  value_set = ap (option_and_then (λ n. n.value)) sets.here

  value_kept : (a : ℕ) → a ≢ k → value h' a ≡ value h a
  value_kept a ne = ap (option_and_then (λ n. n.value)) (sets.others a ne)

  pub set_turns : Turns k v h h'
  set_turns = record {
    links = same_children;
    ups = same_up;
    here = value_set;
    others = value_kept;
  }

-- ---- walks and lookups after a child is added

module _ {V : Type 0} (k at : ℕ) (c : Field) (h h' : Heap V) (joins : Joins k at c h h') where
  at_apart : at ≢ k
  at_apart e = (let none : h at ≡ None = ap h e ∙ joins.fresh in let some = joins.there in cc)

  no_child : (d : Field) → child h k d ≡ None
  no_child d = ap (option_and_then (λ n. get n.children d)) joins.fresh

  pub leaf_child : (d : Field) → child h' k d ≡ None
  leaf_child d = ap (option_and_then (λ n. get n.children d)) joins.leaf ∙ get-empty component_cmp d

  above_child : (d : Field) → child h' at d ≡ cond (eq_by_cmp component_cmp d c) (Some k) (child h at d)
  above_child d =
      ap (option_and_then (λ n. get n.children d)) joins.above ∙ get-insert component_cmp-total joins.node.children c k d
      ∙ ap (cond (eq_by_cmp component_cmp d c) (Some k)) (sym (ap (option_and_then (λ n. get n.children d)) joins.there))

  other_child : (a : ℕ) (d : Field) → a ≢ k → a ≢ at → child h' a d ≡ child h a d
  other_child a d not_k not_at = ap (option_and_then (λ n. get n.children d)) (joins.others a not_k not_at)

  pub child_joined : child h' at c ≡ Some k
  child_joined = above_child c ∙ ap (λ b. cond b (Some k) (child h at c)) (ap is_eq (tied_itself component_cmp-total c))

  up_leaf : up h' k ≡ Some (Some at)
  up_leaf = ap (option_map (λ n. n.parent)) joins.leaf

  up_none : up h k ≡ None
  up_none = ap (option_map (λ n. n.parent)) joins.fresh

  up_other : (a : ℕ) → a ≢ k → up h' a ≡ up h a
  up_other a not_k =
      same_or a at (up h' a ≡ up h a)
      (λ e. ap (up h') e ∙ ap (option_map (λ n. n.parent)) joins.above ∙ sym (ap (up h) e ∙ ap (option_map (λ n. n.parent)) joins.there))
      (λ not_at. ap (option_map (λ n. n.parent)) (joins.others a not_k not_at))

  module _ (root : Option ℕ) (sound : Sound h root) (absent : child h at c ≡ None) where
    -- no link led to k before the child was added
    unlinked : (a : ℕ) (d : Field) → child h a d ≢ Some k
    unlinked a d e = (let low = sound.back a d k e in let none = up_none in cc)

    rootless : root ≢ Some k
    rootless e = (let high = sound.top k e in let none = up_none in cc)

    -- after the child is added, each link is the link from `at` to k for the component `c`, or
    -- existed before
    child_now : (a : ℕ) (d : Field) (j : ℕ) → child h' a d ≡ Some j → ((a ≡ at) × (d ≡ c) × (j ≡ k)) ⊎ (child h a d ≡ Some j)
    child_now a d j e =
        same_or a k _
        (λ is. absurd (let none = leaf_child d in let e' : child h' k d ≡ Some j = ap (λ (i : ℕ). child h' i d) (sym is) ∙ e in cc))
        (λ not_k. same_or a at _
        (λ is. elim (eq_by_cmp component_cmp d c) as (λ b. eq_by_cmp component_cmp d c ≡ b → cond b (Some k) (child h at d) ≡ Some j → ((a ≡ at) × (d ≡ c) × (j ≡ k)) ⊎ (child h a d ≡ Some j)) [
          | true ↦ λ t e. inl (is, component_cmp-antisymmetric d c (equal _ t), (let f : Some k ≡ Some j = e in cc))
          | false ↦ λ t e. inr (ap (λ (i : ℕ). child h i d) is ∙ e)
        ] refl (sym (above_child d) ∙ ap (λ (i : ℕ). child h' i d) (sym is) ∙ e))
        (λ not_at. inr (sym (other_child a d not_k not_at) ∙ e)))

    pub lacks_joined : Lacks k h' root h root
    lacks_joined = record {
      roots = sym (unless_other k root rootless);
      gone = up_none;
      links = λ a d. same_or a k (child h a d ≡ unless k (child h' a d))
          (λ is. ap (λ (i : ℕ). child h i d) is ∙ no_child d ∙ sym (ap (unless k) (ap (λ (i : ℕ). child h' i d) is ∙ leaf_child d)))
          (λ not_k. same_or a at _
          (λ is. ap (λ (i : ℕ). child h i d) is ∙ elim (eq_by_cmp component_cmp d c) as (λ b. eq_by_cmp component_cmp d c ≡ b → child h at d ≡ unless k (cond b (Some k) (child h at d))) [
            | true ↦ λ t.
                let one : d ≡ c = component_cmp-antisymmetric d c (equal _ t) in
                ap (child h at) one ∙ absent ∙ sym (unless_is_self k)
            | false ↦ λ t. sym (unless_other k (child h at d) (unlinked at d))
          ] refl
          ∙ sym (ap (unless k) (above_child d)) ∙ ap (λ (i : ℕ). unless k (child h' i d)) (sym is))
          (λ not_at. sym (unless_other k (child h a d) (unlinked a d)) ∙ ap (unless k) (sym (other_child a d not_k not_at))));
      leaf = leaf_child;
      bare = ap (option_and_then (λ n. n.value)) joins.leaf;
      values = λ a. same_or a k _
          (λ is. ap (value h) is ∙ ap (option_and_then (λ n. n.value)) joins.fresh ∙ sym (ap (value h') is ∙ ap (option_and_then (λ n. n.value)) joins.leaf))
          (λ not_k. same_or a at _
          (λ is. ap (value h) is ∙ ap (option_and_then (λ n. n.value)) joins.there ∙ sym (ap (value h') is ∙ ap (option_and_then (λ n. n.value)) joins.above))
          (λ not_at. ap (option_and_then (λ n. n.value)) (sym (joins.others a not_k not_at))));
      ups = λ a ne. sym (up_other a ne);
    }

    pub sound_joined : HasRoomBelow h root at → Sound h' root
    sound_joined room = record {
      back = λ a d j e. elim (child_now a d j e) as (λ _. up h' j ≡ Some (Some a)) [
        | (inl n) ↦ ap (up h') n.2 ∙ up_leaf ∙ ap (λ (i : ℕ). Some (Some i)) (sym n.0)
        | (inr was) ↦ up_other j (λ is. unlinked a d (was ∙ ap Some is)) ∙ sound.back a d j was
      ];
      once = λ a d d' j e f. elim (child_now a d j e) as (λ _. d ≡ d') [
        | (inl n) ↦ elim (child_now a d' j f) as (λ _. d ≡ d') [
          | (inl m) ↦ n.1 ∙ sym m.1
          | (inr had) ↦ absurd (unlinked a d' (had ∙ ap Some n.2))
        ]
        | (inr was) ↦ elim (child_now a d' j f) as (λ _. d ≡ d') [
          | (inl m) ↦ absurd (unlinked a d (was ∙ ap Some m.2))
          | (inr had) ↦ sound.once a d d' j was had
        ]
      ];
      top = λ j e. up_other j (λ is. rootless (e ∙ ap Some is)) ∙ sound.top j e;
      reach = λ j u e. same_or j k _
          (λ is. (
            room.0 ++ c ∷ [],
            omega (arith, length-append room.0 (c ∷ []), room.1),
            walk-append h' root room.0 (c ∷ []) ∙ ap (λ o. down h' o c) (walks_before k h' root h root lacks_joined room.0 at room.2) ∙ child_joined ∙ ap Some (sym is),
          ))
          (λ ne. let way = sound.reach j u (sym (up_other j ne) ∙ e) in (way.0, way.1, walks_before k h' root h root lacks_joined way.0 j way.2));
    }

-- ---- walks and lookups after a root is added

module _ {V : Type 0} (k : ℕ) (h h' : Heap V) (starts : Starts k h h') (sound : Sound h None) where
  started_child : (a : ℕ) (d : Field) → child h' a d ≡ child h a d
  started_child a d = same_or a k (child h' a d ≡ child h a d)
      (λ is. ap (λ (i : ℕ). child h' i d) is ∙ ap (option_and_then (λ n. get n.children d)) starts.leaf ∙ get-empty component_cmp d
      ∙ sym (ap (λ (i : ℕ). child h i d) is ∙ ap (option_and_then (λ n. get n.children d)) starts.fresh))
      (λ ne. ap (option_and_then (λ n. get n.children d)) (starts.others a ne))

  started_up : (a : ℕ) → a ≢ k → up h' a ≡ up h a
  started_up a ne = ap (option_map (λ n. n.parent)) (starts.others a ne)

  not_linked : (a : ℕ) (d : Field) → child h a d ≢ Some k
  not_linked a d e = (let low = sound.back a d k e in let none : up h k ≡ None = ap (option_map (λ n. n.parent)) starts.fresh in cc)

  pub lacks_started : Lacks k h' (Some k) h None
  lacks_started = record {
    roots = sym (unless_is_self k);
    gone = ap (option_map (λ n. n.parent)) starts.fresh;
    links = λ a d. sym (ap (unless k) (started_child a d) ∙ unless_other k (child h a d) (not_linked a d));
    leaf = λ d. ap (option_and_then (λ n. get n.children d)) starts.leaf ∙ get-empty component_cmp d;
    bare = ap (option_and_then (λ n. n.value)) starts.leaf;
    values = λ a. same_or a k (value h a ≡ value h' a)
        (λ is. ap (value h) is ∙ ap (option_and_then (λ n. n.value)) starts.fresh ∙ sym (ap (value h') is ∙ ap (option_and_then (λ n. n.value)) starts.leaf))
        (λ ne. ap (option_and_then (λ n. n.value)) (sym (starts.others a ne)));
    ups = λ a ne. sym (started_up a ne);
  }

  pub sound_started : Sound h' (Some k)
  sound_started = record {
    back = λ a d j e.
        let was : child h a d ≡ Some j = sym (started_child a d) ∙ e in
        started_up j (λ is. not_linked a d (was ∙ ap Some is)) ∙ sound.back a d j was;
    once = λ a d d' j e f. sound.once a d d' j (sym (started_child a d) ∙ e) (sym (started_child a d') ∙ f);
    top = λ j e. (let one : k ≡ j = cc in ap (up h') (sym one) ∙ ap (option_map (λ n. n.parent)) starts.leaf);
    reach = λ j u e. same_or j k _
        (λ is. ([], omega arith, ap Some (sym is)))
        (λ ne. absurd (let way = sound.reach j u (sym (started_up j ne) ∙ e) in let none = walk_none h way.0 in cc));
  }

-- ---- the removal of a node that has neither a value nor children (`Cuts`)

module _ {V : Type 0} (k : ℕ) (o : Option ℕ) (h h' : Heap V) (root : Option ℕ) (cuts : Cuts k o h h') (sound : Sound h root) (bare : IsBare h k) where
  cut_children : Node V → Node V
  cut_children m = record m { children = revise (unless_is k) m.children }

  parent_or : (a : ℕ) (P : Type 0) → (o ≡ Some a → P) → (o ≢ Some a → P) → P
  parent_or a P is other =
      elim o as (λ p. o ≡ p → P) [
        | None ↦ λ e. other (λ f. absurd cc)
        | (Some p) ↦ λ e. same_or p a P (λ same. is (e ∙ ap Some same)) (λ ne. other (λ f. ne (let one : p ≡ a = cc in one)))
      ] refl

  cut_child : (m : Option (Node V)) (c : Field) → option_and_then (λ n. get n.children c) (option_map (λ (m : Node V). record m { children = revise (unless_is k) m.children }) m) ≡ unless k (option_and_then (λ n. get n.children c) m)
  cut_child None c = refl
  cut_child (Some m) c = get-revise component_cmp-antisymmetric (unless_is k) m.children c

  cut_value : (m : Option (Node V)) → option_and_then (λ n. n.value) (option_map (λ (m : Node V). record m { children = revise (unless_is k) m.children }) m) ≡ option_and_then (λ n. n.value) m
  cut_value None = refl
  cut_value (Some m) = refl

  cut_up : (m : Option (Node V)) → option_map (λ n. n.parent) (option_map (λ (m : Node V). record m { children = revise (unless_is k) m.children }) m) ≡ option_map (λ n. n.parent) m
  cut_up None = refl
  cut_up (Some m) = refl

  pub lacks_cut : Lacks k h root h' (unless k root)
  lacks_cut = record {
    roots = refl;
    gone = ap (option_map (λ n. n.parent)) cuts.gone;
    links = λ a c. same_or a k (child h' a c ≡ unless k (child h a c))
        (λ is. ap (λ (i : ℕ). child h' i c) is ∙ ap (option_and_then (λ n. get n.children c)) cuts.gone
        ∙ sym (ap (unless k) (ap (λ (i : ℕ). child h i c) is ∙ bare.leaf c)))
        (λ ne. parent_or a (child h' a c ≡ unless k (child h a c))
        (λ is. ap (option_and_then (λ n. get n.children c)) (cuts.above a is ne) ∙ cut_child (h a) c)
        (λ apart. ap (option_and_then (λ n. get n.children c)) (cuts.others a ne apart)
        ∙ sym (unless_other k (child h a c) (λ e. apart (let low = sound.back a c k e in let has = cuts.was in let one : Some o ≡ Some (Some a) = sym has ∙ low in cc)))));
    leaf = bare.leaf;
    bare = bare.bare;
    values = λ a. same_or a k (value h' a ≡ value h a)
        (λ is. ap (value h') is ∙ ap (option_and_then (λ n. n.value)) cuts.gone ∙ sym (ap (value h) is ∙ bare.bare))
        (λ ne. parent_or a (value h' a ≡ value h a)
        (λ is. ap (option_and_then (λ n. n.value)) (cuts.above a is ne) ∙ cut_value (h a))
        (λ apart. ap (option_and_then (λ n. n.value)) (cuts.others a ne apart)));
    ups = λ a ne. parent_or a (up h' a ≡ up h a)
        (λ is. ap (option_map (λ n. n.parent)) (cuts.above a is ne) ∙ cut_up (h a))
        (λ apart. ap (option_map (λ n. n.parent)) (cuts.others a ne apart));
  }

-- ---- other lemmas about heaps, walks and results

pub same_heap : {V : Type 0} (h h' : Heap V) → ((j : ℕ) → h' j ≡ h j) → h' ≡ h
same_heap h h' e = λ i j. e j i

pub some_along : {X : Type 0} (o p : Option X) → o ≡ p → IsSome p → IsSome o
some_along {X} o p e some = subst (λ (r : Option X). IsSome r) (sym e) some

-- a walk that ends at a node also begins at a node
pub begins : {V : Type 0} (h : Heap V) (o : Option ℕ) (q : List Field) → IsSome (walk h o q) → IsSome o
begins h None q some = some_along None (walk h None q) (sym (walk_none h q)) some
begins h (Some k) q some = refl

pub there_by_up : {V : Type 0} (h : Heap V) (k : ℕ) (u : Option ℕ) → up h k ≡ Some u → IsSome (h k)
there_by_up {V} h k u e =
    elim (h k) as (λ (o : Option (Node V)). option_map (λ n. n.parent) o ≡ Some u → IsSome o) [ None ↦ λ f. absurd cc | (Some n) ↦ λ f. refl ] e

pub by_result : {A E : Type 0} {P : A → Type 0} {Q : Type 0} (r : Result A E) (C : Type 0) → IfOk r P → OnErr r Q → ((x : A) → P x → C) → (Q → C) → C
by_result (Ok x) C ok err good bad = good x ok
by_result (Err x) C ok err good bad = bad err

pub if_ok_then : {A E : Type 0} {P Q : A → Type 0} (r : Result A E) → IfOk r P → ((x : A) → P x → Q x) → IfOk r Q
if_ok_then (Ok x) ok then = then x ok
if_ok_then (Err x) ok then = tt

pub on_ok_then : {A E : Type 0} {P Q : Type 0} (r : Result A E) → OnOk r P → (P → Q) → OnOk r Q
on_ok_then (Ok x) ok then = then ok
on_ok_then (Err x) ok then = tt

pub on_err_then : {A E : Type 0} {P Q : Type 0} (r : Result A E) → OnErr r P → (P → Q) → OnErr r Q
on_err_then (Ok x) err then = tt
on_err_then (Err x) err then = then err

pub some_before : {X Y : Type 0} (f : X → Option Y) (o : Option X) → IsSome (option_and_then f o) → IsSome o
some_before f None some = some_along None (option_and_then f None) refl some
some_before f (Some x) some = refl

pub held_still : {V : Type 0} (h h' : Heap V) (root root' kept : Option ℕ) (held : Option (List Field × ℕ)) → kept ≡ option_map (λ p. p.1) held
    → ((q : List Field) → IsSome kept → walk h root q ≡ kept → walk h' root' q ≡ kept) → IsHeld h root held → IsHeld h' root' held
held_still h h' root root' kept None is keeps at = tt
held_still h h' root root' kept (Some p) is keeps at = keeps p.0 (some_along kept (Some p.1) is refl) (at ∙ sym is) ∙ is
