-- The octets of full names, which end with the octets of the digest.
use Rattle.std.proofs.Common.{◌≡◌, ◌⊎◌, inl, inr, ℕ, ◌<◌, ◌≤◌, Bool, true, false, List, [], ◌∷◌, ◌++◌, length, get_or, take, drop, refl, sym, ap, subst, ◌∙◌, arith, append_assoc}
use Rattle.std.specs.Prelude.{◌↔◌, ◌&&◌, ◌||◌, IsTrue, nat_lt}
use Rattle.std.specs.List.{AllByRecursion}
use Rattle.std.specs.Cmp.Lexicographic.{slice_cmp}
use Rattle.std.specs.Ordering.{is_eq, nat_cmp, ordering_then}
use Rattle.std.specs.declared.cmp.Ordering.{Ordering}
use Rattle.std.specs.declared.cmp.Ordering.TheVariants.{Less, Equal, Greater}
use Rattle.std.specs.Cmp.{Equal-is}
use Rattle.std.proofs.lemmas.Cmp.{tied_itself}
use Rattle.std.proofs.lemmas.List.{append-nil, drop_at, length-append, length-take-le, take-append-drop}
use Rattle.std.proofs.lemmas.List.Concat.{flat_map-append}
use Rattle.sha2.specs.Sha256.{sha256}
use Rattle.sha2.proofs.Facts256.{length-sha256}
use Rattle.ndn_tlv.specs.Element.{Field, IsField, element}
use Rattle.ndn_names.specs.Name.{IsNameValue, IsPrefix, octets_of}
use Rattle.ndn_names.specs.Order.{component_cmp, name_cmp}
use Rattle.ndn_names.specs.Key.{name_cmp-antisymmetric, name_cmp-total}
use Rattle.ndn_names.proofs.OctetOrder.{octets_cmp}
use Rattle.ndn_names.proofs.Prefixes.{begins_with}
use Rattle.ndn_packets.specs.Answers.{full_name}
use Rattle.ndn_packets.specs.FullName.{is_near, starts_small}
use Rattle.ndn_packets.proofs.FullNames.{full_octets}
use Rattle.ndn_packets.proofs.Answering.{prefix_is}
use Rattle.ndn_packets.proofs.Near.{after_front, small_none, small_some}
use Rattle.content_store.specs.Entry.{IsHead, OrdersFullNames, digest_octets}

-- ---- comparisons in sequence

then_assoc : (o p q : Ordering) → ordering_then (ordering_then o p) q ≡ ordering_then o (ordering_then p q)
then_assoc Less p q = refl
then_assoc Equal p q = refl
then_assoc Greater p q = refl

-- if the first of two comparisons does not return Equal, the two comparisons in sequence return the
-- result of the first
pub decided : (o p : Ordering) → (o ≡ Equal → ⊥) → o ≡ ordering_then o p
decided Less p never = refl
decided Equal p never = absurd (never refl)
decided Greater p never = refl

-- if the list `v` is at most as long as the list `u`, then `u ++ x ∷ t` compares with `v` as `u`
-- does, or is greater if `u` equals `v`
pub cmp_longer : (u v : List ℕ) (x : ℕ) (t : List ℕ) → length v ≤ length u → slice_cmp nat_cmp (u ++ x ∷ t) v ≡ ordering_then (slice_cmp nat_cmp u v) Greater
cmp_longer [] [] x t le = refl
cmp_longer [] (b ∷ v) x t le = absurd (omega arith)
cmp_longer (a ∷ u) [] x t le = refl
cmp_longer (a ∷ u) (b ∷ v) x t le =
    ap (ordering_then (nat_cmp a b)) (cmp_longer u v x t (omega arith)) ∙ sym (then_assoc (nat_cmp a b) (slice_cmp nat_cmp u v) Greater)

-- if `u` and `v` have the same length, `u ++ x` compares with `v ++ y` as `u` does with `v` or, if
-- `u` equals `v`, as `x` does with `y`
pub cmp_split : (u v x y : List ℕ) → length u ≡ length v → slice_cmp nat_cmp (u ++ x) (v ++ y) ≡ ordering_then (slice_cmp nat_cmp u v) (slice_cmp nat_cmp x y)
cmp_split [] [] x y e = refl
cmp_split [] (b ∷ v) x y e = absurd (omega arith)
cmp_split (a ∷ u) [] x y e = absurd (omega arith)
cmp_split (a ∷ u) (b ∷ v) x y e =
    ap (ordering_then (nat_cmp a b)) (cmp_split u v x y (omega arith)) ∙ sym (then_assoc (nat_cmp a b) (slice_cmp nat_cmp u v) (slice_cmp nat_cmp x y))

nat_tie : (a b : ℕ) → nat_cmp a b ≡ Equal → a ≡ b
nat_tie a b e = grind arith

pub cmp_tie : (u v : List ℕ) → slice_cmp nat_cmp u v ≡ Equal → u ≡ v
cmp_tie [] [] e = refl
cmp_tie [] (b ∷ v) e = absurd cc
cmp_tie (a ∷ u) [] e = absurd cc
cmp_tie (a ∷ u) (b ∷ v) e = by (nat_cmp a b) refl e (cmp_tie u v)
  where
    by : (o : Ordering) → nat_cmp a b ≡ o → ordering_then o (slice_cmp nat_cmp u v) ≡ Equal → (slice_cmp nat_cmp u v ≡ Equal → u ≡ v) → a ∷ u ≡ b ∷ v
    by Less o e again = absurd cc
    by Equal o e again = (let first = nat_tie a b o in let rest = again e in λ k. first k ∷ rest k)
    by Greater o e again = absurd cc

-- ---- comparing a full name with a name

module _ (u octets v : List ℕ) (name other : List Field) (h : IsNameValue u name) (g : IsNameValue v other) where
  full : name_cmp (full_name name (sha256 octets)) other ≡ slice_cmp nat_cmp (u ++ digest_octets (sha256 octets)) v
  full =
      let o = full_octets u (sha256 octets) name h (length-sha256 octets) in
      sym (octets_cmp (full_name name (sha256 octets)) other o.1 g.0.0) ∙ (λ k. slice_cmp nat_cmp (o.0 k) (sym g.0.1 k))

  pub no_longer : length v ≤ length u → ordering_then (slice_cmp nat_cmp u v) Greater ≡ name_cmp (full_name name (sha256 octets)) other
  no_longer le = sym (full ∙ cmp_longer u v 1 (32 ∷ sha256 octets) le)

  pub in_parts : (front rest : List ℕ) → v ≡ front ++ rest → length front ≡ length u
      → ordering_then (slice_cmp nat_cmp u front) (slice_cmp nat_cmp (digest_octets (sha256 octets)) rest) ≡ name_cmp (full_name name (sha256 octets)) other
  in_parts front rest is len =
      sym (full ∙ ap (slice_cmp nat_cmp (u ++ digest_octets (sha256 octets))) is ∙ cmp_split u front (digest_octets (sha256 octets)) rest (sym len))

  pub differs_from : (front rest : List ℕ) → v ≡ front ++ rest → length front ≡ length u → (o : Ordering) → o ≡ slice_cmp nat_cmp u front → (o ≡ Equal → ⊥)
      → o ≡ name_cmp (full_name name (sha256 octets)) other
  differs_from front rest is len o e never =
      decided o (slice_cmp nat_cmp (digest_octets (sha256 octets)) rest) never ∙ ap (λ p. ordering_then p (slice_cmp nat_cmp (digest_octets (sha256 octets)) rest)) e ∙ in_parts front rest is len

-- ---- comparing two full names

pub same_length : (u v d e : List ℕ) (name other : List Field) → IsNameValue u name → IsNameValue v other → length d ≡ 32 → length e ≡ 32 → length u ≡ length v
    → ordering_then (slice_cmp nat_cmp u v) (slice_cmp nat_cmp d e) ≡ name_cmp (full_name name d) (full_name other e)
same_length u v d e name other h g dl el len =
    let o = full_octets u d name h dl in
    let p = full_octets v e other g el in
    sym (sym (octets_cmp (full_name name d) (full_name other e) o.1 p.1) ∙ (λ k. slice_cmp nat_cmp (o.0 k) (p.0 k)) ∙ cmp_split u v (digest_octets d) (digest_octets e) len)

fields_back : (a b : List Field) → AllByRecursion IsField (a ++ b) → AllByRecursion IsField b
fields_back [] b h = h
fields_back (c ∷ a) b h = fields_back a b h.1

-- the empty name comes before every other name
nothing_first : (cs : List Field) (f : Field) → name_cmp [] (cs ++ f ∷ []) ≡ Less
nothing_first [] f = refl
nothing_first (c ∷ cs) f = refl

then_less : (o : Ordering) (cs : List Field) → ordering_then (ordering_then o (name_cmp [] cs)) Less ≡ ordering_then o Less
then_less Less cs = refl
then_less Equal [] = refl
then_less Equal (c ∷ cs) = refl
then_less Greater cs = refl

digest_field : (d : List ℕ) → length d ≡ 32 → octets_of ((1, d) ∷ []) ≡ digest_octets d
digest_field d len = let o = full_octets [] d [] ((tt, refl), (omega arith, tt)) len in o.0

-- `d` and `e` are digests, and `rest` is not empty. Comparing the component of `d` with the
-- concatenation of `rest` and the component of `e` yields the result of comparing the component of
-- `d` with `rest` alone, or Less if that result is Equal.
digest_before : (rest : List Field) (d e : List ℕ) → AllByRecursion IsField rest → 0 < length (octets_of rest) → length d ≡ 32 → length e ≡ 32
    → slice_cmp nat_cmp (digest_octets d) (octets_of rest ++ digest_octets e) ≡ ordering_then (slice_cmp nat_cmp (digest_octets d) (octets_of rest)) Less
digest_before [] d e h some dl el = absurd (omega arith)
digest_before (c ∷ cs) d e h some dl el =
    let none : IsNameValue [] [] = ((tt, refl), (omega arith, tt)) in
    let mine = full_octets [] d [] none dl in
    let fd : AllByRecursion IsField ((1, d) ∷ []) = mine.1 in
    let fe : AllByRecursion IsField ((1, e) ∷ []) = (full_octets [] e [] none el).1 in
    let its : octets_of ((c ∷ cs) ++ (1, e) ∷ []) ≡ octets_of (c ∷ cs) ++ digest_octets e = flat_map-append element (c ∷ cs) ((1, e) ∷ []) ∙ ap (λ (t : List ℕ). octets_of (c ∷ cs) ++ t) (digest_field e el) in
    let more : AllByRecursion IsField ((c ∷ cs) ++ (1, e) ∷ []) = fields_and (c ∷ cs) ((1, e) ∷ []) h fe in
    (λ k. slice_cmp nat_cmp (sym (digest_field d dl) k) (sym its k)) ∙ octets_cmp ((1, d) ∷ []) ((c ∷ cs) ++ (1, e) ∷ []) fd more
    ∙ ap (ordering_then (component_cmp (1, d) c)) (nothing_first cs (1, e))
    ∙ sym (then_less (component_cmp (1, d) c) cs)
    ∙ ap (λ o. ordering_then o Less) (sym (octets_cmp ((1, d) ∷ []) (c ∷ cs) fd h) ∙ (λ k. slice_cmp nat_cmp (digest_field d dl k) (octets_of (c ∷ cs))))
  where
    fields_and : (a b : List Field) → AllByRecursion IsField a → AllByRecursion IsField b → AllByRecursion IsField (a ++ b)
    fields_and [] b h g = g
    fields_and (c ∷ a) b h g = (h.0, fields_and a b h.1 g)

module _ (u v front rest d e : List ℕ) (name other : List Field) (h : IsNameValue u name) (g : IsNameValue v other) (dl : length d ≡ 32) (el : length e ≡ 32)
    (is : v ≡ front ++ rest) (len : length front ≡ length u) (some : 0 < length rest) where
  whole : name_cmp (full_name name d) (full_name other e) ≡ ordering_then (slice_cmp nat_cmp u front) (slice_cmp nat_cmp (digest_octets d) (rest ++ digest_octets e))
  whole =
      let o = full_octets u d name h dl in
      let p = full_octets v e other g el in
      sym (octets_cmp (full_name name d) (full_name other e) o.1 p.1)
      ∙ (λ k. slice_cmp nat_cmp (o.0 k) ((p.0 ∙ ap (λ (t : List ℕ). t ++ digest_octets e) is ∙ append_assoc front rest (digest_octets e)) k))
      ∙ cmp_split u front (digest_octets d) (rest ++ digest_octets e) (sym len)

  -- if `u` equals `front` and `rest` is not empty, comparing the component of the digest `d` with
  -- the concatenation of `rest` and the component of the digest `e` yields the result of comparing
  -- the component of `d` with `rest` alone, or Less if that result is Equal
  behind : u ≡ front → slice_cmp nat_cmp (digest_octets d) (rest ++ digest_octets e) ≡ ordering_then (slice_cmp nat_cmp (digest_octets d) rest) Less
  behind same =
      let p = begins_with name other rest h.0.0 g.0.0 (sym g.0.1 ∙ is ∙ ap (λ (t : List ℕ). t ++ rest) (sym same ∙ h.0.1)) in
      let octets : octets_of name ++ rest ≡ octets_of name ++ octets_of p.0 =
      ap (λ (t : List ℕ). t ++ rest) (sym h.0.1 ∙ same) ∙ sym is ∙ g.0.1 ∙ ap octets_of p.1 ∙ flat_map-append element name p.0 in
      let rest_is : rest ≡ octets_of p.0 =
      sym (drop_at (octets_of name) rest (length (octets_of name)) refl) ∙ ap (drop (length (octets_of name))) octets ∙ drop_at (octets_of name) (octets_of p.0) (length (octets_of name)) refl in
      let fields : AllByRecursion IsField p.0 = fields_back name p.0 (subst (AllByRecursion IsField) p.1 g.0.0) in
      let more : 0 < length (octets_of p.0) = subst (λ (t : List ℕ). 0 < length t) rest_is some in
      ap (λ (t : List ℕ). slice_cmp nat_cmp (digest_octets d) (t ++ digest_octets e)) rest_is ∙ digest_before p.0 d e fields more dl el
      ∙ ap (λ (t : List ℕ). ordering_then (slice_cmp nat_cmp (digest_octets d) t) Less) (sym rest_is)

  pub differs : (o : Ordering) → slice_cmp nat_cmp u front ≡ o → (o ≡ Equal → ⊥) → o ≡ name_cmp (full_name name d) (full_name other e)
  differs Less e' never = sym (whole ∙ ap (λ o. ordering_then o (slice_cmp nat_cmp (digest_octets d) (rest ++ digest_octets e))) e')
  differs Equal e' never = absurd (never refl)
  differs Greater e' never = sym (whole ∙ ap (λ o. ordering_then o (slice_cmp nat_cmp (digest_octets d) (rest ++ digest_octets e))) e')

  pub ties : slice_cmp nat_cmp u front ≡ Equal → ordering_then (slice_cmp nat_cmp (digest_octets d) rest) Less ≡ name_cmp (full_name name d) (full_name other e)
  ties tie =
      sym (whole ∙ ap (λ o. ordering_then o (slice_cmp nat_cmp (digest_octets d) (rest ++ digest_octets e))) tie ∙ behind (cmp_tie u front tie))

abbrev first_digest : List Field → List ℕ
first_digest [] = []
first_digest (c ∷ cs) = c.1

pub full_parts : (n m : List Field) (d e : List ℕ) → full_name n d ≡ full_name m e → (n ≡ m) × (d ≡ e)
full_parts [] [] d e is = (refl, ap first_digest is)
full_parts [] (b ∷ m) d e is = absurd (omega (arith, ap length is, length-append m ((1, e) ∷ [])))
full_parts (a ∷ n) [] d e is = absurd (omega (arith, ap length is, length-append n ((1, d) ∷ [])))
full_parts (a ∷ n) (b ∷ m) d e is =
    let first : a ≡ b = cc in
    let after : full_name n d ≡ full_name m e = cc in
    let rest = full_parts n m d e after in
    (λ k. first k ∷ rest.0 k, rest.1)

-- ---- full names that begin with a name, or are equal to a name

last_of : (n m : List Field) (x : Field) → IsPrefix m (n ++ x ∷ []) → IsPrefix m n ⊎ (m ≡ n ++ x ∷ [])
last_of n [] x p = inl (n, refl)
last_of [] (c ∷ []) x p = inr (let q = p.1 in let first : x ≡ c = cc in λ k. sym first k ∷ [])
last_of [] (c ∷ (d ∷ m)) x p = absurd (let q = p.1 in let r : [] ≡ (d ∷ m) ++ p.0 = cc in cc)
last_of (a ∷ n) (c ∷ m) x p =
    let q = p.1 in
    let first : a ≡ c = cc in
    let after : n ++ x ∷ [] ≡ m ++ p.0 = cc in
    elim (last_of n m x (p.0, after)) [
      | inl r ↦ inl (r.0, λ k. first k ∷ r.1 k)
      | inr e ↦ inr (λ k. sym first k ∷ e k)
    ]

pub prefix_or_whole : (n m : List Field) (x : Field) → IsPrefix m (n ++ x ∷ []) ↔ (IsPrefix m n ⊎ (m ≡ n ++ x ∷ []))
prefix_or_whole n m x = (
  last_of n m x,
  λ h. elim h [
    | inl p ↦ (p.0 ++ x ∷ [], ap (λ (t : List Field). t ++ x ∷ []) p.1 ∙ append_assoc m p.0 (x ∷ []))
    | inr e ↦ ([], sym e ∙ sym (append-nil m))
  ],
)

pub tie_is : (a b : List Field) (o : Ordering) → o ≡ name_cmp a b → IsTrue (is_eq o) ↔ (b ≡ a)
tie_is a b o is = (
  λ t. sym (name_cmp-antisymmetric a b (sym is ∙ (Equal-is o).0 t)),
  λ e. (Equal-is o).1 (is ∙ ap (λ (n : List Field). name_cmp n b) (sym e) ∙ tied_itself name_cmp-total b),
)

-- if the name `m` is a prefix of the name `n`, then `starts_small` returns the same result for the
-- components of `n` after `m` as for the components after `m` in the full name of a Data named `n`
pub small_full : (n m : List Field) (d : List ℕ) → IsPrefix m n → starts_small (drop (length m) (n ++ (1, d) ∷ [])) ≡ starts_small (drop (length m) n)
small_full n m d p =
    ap (λ (t : List Field). starts_small (drop (length m) (t ++ (1, d) ∷ []))) p.1 ∙ ap (λ (t : List Field). starts_small (drop (length m) t)) (append_assoc m p.0 ((1, d) ∷ []))
    ∙ ap starts_small (after_front m (p.0 ++ (1, d) ∷ [])) ∙ either p.0
    ∙ sym (ap (λ (t : List Field). starts_small (drop (length m) t)) p.1 ∙ ap starts_small (after_front m p.0))
  where
    either : (rest : List Field) → starts_small (rest ++ (1, d) ∷ []) ≡ starts_small rest
    either [] = refl
    either (c ∷ cs) = refl

longer : (u v : List ℕ) (n m : List Field) (d : List ℕ) → IsNameValue u n → IsNameValue v m → length d ≡ 32 → m ≡ full_name n d → length u < length v
longer u v n m d h g len e =
    omega (arith, ap length (g.0.1 ∙ ap octets_of e ∙ (full_octets u d n h len).0), length-append u (1 ∷ 32 ∷ d))

nothing_after : (m : List Field) → starts_small (drop (length m) m) ≡ true
nothing_after m = ap (λ (t : List Field). starts_small (drop (length m) t)) (sym (append-nil m)) ∙ ap starts_small (after_front m [])

module _ (u v : List ℕ) (n m : List Field) (d : List ℕ) (flag : Bool) (h : IsNameValue u n) (g : IsNameValue v m) (len : length d ≡ 32) (p : IsPrefix m (full_name n d)) (off : flag ≡ false) where
  near_by : (r : Bool) → starts_small (drop (length m) (full_name n d)) ≡ r → r ≡ is_near m flag (full_name n d)
  near_by r small =
      let begins = (prefix_is m (full_name n d)).1 p in
      sym (λ k. begins k && (off k || small k))

  pub near_some : (b : ℕ) → length v < length u → b ≡ get_or u (length v) b → nat_lt b 2 ≡ is_near m flag (full_name n d)
  near_some b lt is =
      elim (last_of n m (1, d) p) [
        | inl q ↦ near_by (nat_lt b 2) (small_full n m d q ∙ small_some u v n m b h.0 g.0 ((prefix_is m n).1 q) lt is)
        | inr e ↦ absurd (omega (arith, longer u v n m d h g len e))
      ]

  pub near_none : length u ≤ length v → true ≡ is_near m flag (full_name n d)
  near_none le =
      elim (last_of n m (1, d) p) [
        | inl q ↦ near_by true (small_full n m d q ∙ small_none u v n m h.0 g.0 ((prefix_is m n).1 q) le)
        | inr e ↦ near_by true (ap (λ (t : List Field). starts_small (drop (length m) t)) (sym e) ∙ nothing_after m)
      ]

-- ---- comparing names by their first octets

-- let `u` and `v` have at least `n` octets: if `o` is the result of comparing the first `n` octets
-- of `u` and `v`, and is not Equal, then `o` is also the result of comparing `u ++ x` with `v ++ y`
first_decide : (n : ℕ) (u v x y : List ℕ) (o : Ordering) → n ≤ length u → n ≤ length v → o ≡ slice_cmp nat_cmp (take n u) (take n v) → (o ≡ Equal → ⊥) → o ≡ slice_cmp nat_cmp (u ++ x) (v ++ y)
first_decide n u v x y o lu lv e never =
    let parts = λ (w z : List ℕ). ap (λ (t : List ℕ). t ++ z) (sym (take-append-drop n w)) ∙ append_assoc (take n w) (drop n w) z in
    decided o (slice_cmp nat_cmp (drop n u ++ x) (drop n v ++ y)) never ∙ ap (λ p. ordering_then p (slice_cmp nat_cmp (drop n u ++ x) (drop n v ++ y))) e
    ∙ sym (cmp_split (take n u) (take n v) (drop n u ++ x) (drop n v ++ y) (length-take-le n u lu ∙ sym (length-take-le n v lv)))
    ∙ (λ k. slice_cmp nat_cmp (sym (parts u x) k) (sym (parts v y) k))

pub heads_order : (name other : List Field) (head v its : List ℕ) (o : Ordering) → IsHead name head → IsNameValue v other → 32 ≤ length v → its ≡ take 32 v → o ≡ slice_cmp nat_cmp head its
    → OrdersFullNames name other o
heads_order name other head v its o h g long first e =
    λ never d dl.
    let mine = full_octets (octets_of name) d name h.value dl in
    let order : o ≡ slice_cmp nat_cmp (take 32 (octets_of name)) (take 32 v) = e ∙ (λ k. slice_cmp nat_cmp (h.first k) (first k)) in (
      first_decide 32 (octets_of name) v (digest_octets d) [] o h.long long order never
          ∙ (λ k. slice_cmp nat_cmp (sym mine.0 k) ((append-nil v ∙ g.0.1) k)) ∙ octets_cmp (full_name name d) other mine.1 g.0.0,
      λ e' el.
          let its' = full_octets v e' other g el in
          first_decide 32 (octets_of name) v (digest_octets d) (digest_octets e') o h.long long order never
          ∙ (λ k. slice_cmp nat_cmp (sym mine.0 k) (sym its'.0 k)) ∙ octets_cmp (full_name name d) (full_name other e') mine.1 its'.1,
    )
