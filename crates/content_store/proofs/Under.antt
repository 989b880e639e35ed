-- Full names that begin with the same name are contiguous in the list.
use Rattle.std.proofs.Common.{◌≡◌, ◌⊎◌, inl, inr, ℕ, ◌<◌, ◌≤◌, Bool, true, false, List, [], ◌∷◌, ◌++◌, length, get_or, drop, append_assoc, refl, sym, ap, subst, ◌∙◌, arith}
use Rattle.std.specs.Prelude.{◌&&◌, ◌||◌}
use Rattle.std.specs.Ordering.{ordering_reverse, ordering_then}
use Rattle.std.proofs.lemmas.List.{append-nil}
use Rattle.std.specs.declared.cmp.Ordering.{Ordering}
use Rattle.std.specs.declared.cmp.Ordering.TheVariants.{Less, Equal, Greater}
use Rattle.std.proofs.lemmas.Cmp.{tied_itself}
use Rattle.ndn_tlv.specs.Element.{Field}
use Rattle.ndn_names.specs.Name.{IsPrefix}
use Rattle.ndn_names.specs.Order.{component_cmp, name_cmp}
use Rattle.ndn_names.specs.Key.{component_cmp-total, component_cmp-antisymmetric, name_cmp-total}
use Rattle.ndn_packets.specs.FullName.{is_near, starts_small}
use Rattle.ndn_packets.specs.Key.{PlainKey}
use Rattle.ndn_packets.proofs.Answering.{prefix_is}
use Rattle.ndn_packets.proofs.Near.{after_front, between}
use Rattle.content_store.specs.Store.{CachedData, CanServe, full_name_of}
use Rattle.content_store.specs.Rows.{Placed, name_at, Rising}

-- a full name that begins with a name is not less than the name
pub under_not_less : (n a : List Field) → IsPrefix n a → name_cmp a n ≡ Less → ⊥
under_not_less [] [] p e = cc
under_not_less [] (d ∷ a) p e = cc
under_not_less (c ∷ n) [] p e = (let q = p.1 in cc)
under_not_less (c ∷ n) (d ∷ a) p e =
    let first : d ≡ c = (let q = p.1 in cc) in
    let after : a ≡ n ++ p.0 = (let q = p.1 in cc) in
    let tie : component_cmp d c ≡ Equal = ap (λ x. component_cmp d x) (sym first) ∙ tied_itself component_cmp-total d in
    under_not_less n a (p.0, after) (sym (ap (λ o. ordering_then o (name_cmp a n)) tie) ∙ e)

-- if the name `a` is not less than the name `n`, and is less than a name `b` that begins with `n`,
-- then `a` also begins with `n`
pub convex : (n a b : List Field) → (name_cmp a n ≡ Less → ⊥) → name_cmp a b ≡ Less → IsPrefix n b → IsPrefix n a
convex [] a b low less p = (a, refl)
convex (c ∷ n) [] b low less p = absurd (low refl)
convex (c ∷ n) (d ∷ a) [] low less p = (let q = p.1 in absurd cc)
convex (c ∷ n) (d ∷ a) (e ∷ b) low less p = by (component_cmp d c) refl (convex n a b)
  where
    same : e ≡ c
    same = (let q = p.1 in cc)

    after : b ≡ n ++ p.0
    after = (let q = p.1 in cc)

    by : (o : Ordering) → component_cmp d c ≡ o → ((name_cmp a n ≡ Less → ⊥) → name_cmp a b ≡ Less → IsPrefix n b → IsPrefix n a) → IsPrefix (c ∷ n) (d ∷ a)
    by Less is again = absurd (low (ap (λ o. ordering_then o (name_cmp a n)) is))
    by Greater is again =
        let g : component_cmp d e ≡ Greater = ap (λ x. component_cmp d x) same ∙ is in
        let h : ordering_then Greater (name_cmp a b) ≡ Less = sym (ap (λ o. ordering_then o (name_cmp a b)) g) ∙ less in
        absurd cc
    by Equal is again =
        let first : d ≡ c = component_cmp-antisymmetric d c is in
        let g : component_cmp d e ≡ Equal = ap (λ x. component_cmp d x) same ∙ is in
        let rest = again (λ l. low (ap (λ o. ordering_then o (name_cmp a n)) is ∙ l)) (sym (ap (λ o. ordering_then o (name_cmp a b)) g) ∙ less) (p.0, after) in
        (rest.0, λ i. first i ∷ rest.1 i)

same_or_after : (a b : ℕ) → a ≤ b → (a ≡ b) ⊎ (a < b)
same_or_after a b le = grind arith

-- if a row's full name is not less than the name `n` and does not begin with `n`, no later row has
-- a full name that begins with `n`
pub none_after : (n : List Field) (rows : List Placed) (at : ℕ) → Rising rows → at < length rows → ((d : Placed) → name_cmp (name_at (get_or rows at d)) n ≡ Less → ⊥)
    → ((d : Placed) → IsPrefix n (name_at (get_or rows at d)) → ⊥) → (k : ℕ) (d : Placed) → at ≤ k → k < length rows → IsPrefix n (name_at (get_or rows k d)) → ⊥
none_after n rows at rising lt low never k d ge within p =
    elim (same_or_after at k ge) [
      | inl e ↦ never d (subst (λ (j : ℕ). IsPrefix n (name_at (get_or rows j d))) (sym e) p)
      | inr after ↦ never d (convex n (name_at (get_or rows at d)) (name_at (get_or rows k d)) (low d) (rising at k d after within) p)
    ]

not_greater : (a b : List Field) → name_cmp a b ≡ Less → name_cmp a b ≡ Greater → ⊥
not_greater a b less greater = (let clash = sym less ∙ greater in cc)

-- if a row's full name is neither less than the name `n` nor near `n` (`is_near`), no later row has
-- a full name near `n`
pub far_after : (n : List Field) (flag : Bool) (rows : List Placed) (at : ℕ) → Rising rows → at < length rows → ((d : Placed) → name_cmp (name_at (get_or rows at d)) n ≡ Less → ⊥)
    → ((d : Placed) → is_near n flag (name_at (get_or rows at d)) ≡ true → ⊥) → (k : ℕ) (d : Placed) → at ≤ k → k < length rows → is_near n flag (name_at (get_or rows k d)) ≡ true → ⊥
far_after n flag rows at rising lt low never k d ge within near =
    elim (same_or_after at k ge) [
      | inl e ↦ never d (subst (λ (j : ℕ). is_near n flag (name_at (get_or rows j d)) ≡ true) (sym e) near)
      | inr after ↦ never d (between n (name_at (get_or rows at d)) (name_at (get_or rows k d)) flag near
          (λ g. low d (name_cmp-total.antisymm (name_at (get_or rows at d)) n ∙ ap ordering_reverse g))
          (not_greater (name_at (get_or rows at d)) (name_at (get_or rows k d)) (rising at k d after within)))
    ]

-- the full name of a Data that can serve an Interest begins with the Interest's name
pub under_served : (key : PlainKey) (now : ℕ) (c : CachedData) → CanServe key now c → IsPrefix key.name (full_name_of c)
under_served key now c h =
    elim h.0 [
      | inl same ↦ ((1, c.digest) ∷ [], ap (λ (n : List Field). n ++ (1, c.digest) ∷ []) (sym same))
      | inr (inl same) ↦ ([], sym same ∙ sym (append-nil key.name))
      | inr (inr p) ↦ elim p.1 [
        | inl q ↦ (q.0 ++ (1, c.digest) ∷ [], ap (λ (n : List Field). n ++ (1, c.digest) ∷ []) q.1 ∙ append_assoc key.name q.0 ((1, c.digest) ∷ []))
        | inr q ↦ q
      ]
    ]

-- the full name of a Data that can serve an Interest is near the Interest's name (`is_near`)
pub serves_near : (key : PlainKey) (now : ℕ) (c : CachedData) → CanServe key now c → is_near key.name key.can_be_prefix (full_name_of c) ≡ true
serves_near key now c h =
    let begins = (prefix_is key.name (full_name_of c)).1 (under_served key now c h) in
    (λ k. begins k && small k)
  where
    either : (b : Bool) → (b || true) ≡ true
    either true = refl
    either false = refl

    small : (key.can_be_prefix || starts_small (drop (length key.name) (full_name_of c))) ≡ true
    small = elim h.0 [
      | inl same ↦ ap (λ (b : Bool). key.can_be_prefix || b)
          (ap (λ (n : List Field). starts_small (drop (length key.name) (n ++ (1, c.digest) ∷ []))) (sym same) ∙ ap starts_small (after_front key.name ((1, c.digest) ∷ [])))
          ∙ either key.can_be_prefix
      | inr (inl same) ↦ ap (λ (b : Bool). key.can_be_prefix || b)
          (ap (λ (n : List Field). starts_small (drop (length key.name) n)) (sym same ∙ sym (append-nil key.name)) ∙ ap starts_small (after_front key.name []))
          ∙ either key.can_be_prefix
      | inr (inr p) ↦ ap (λ (b : Bool). b || starts_small (drop (length key.name) (full_name_of c))) p.0
    ]
