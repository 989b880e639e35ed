-- The laws of canonical order.
use Rattle.std.proofs.Common.{◌≡◌, ℕ, ◌<◌, ◌⊎◌, List, [], ◌∷◌, ◌++◌, length, refl, sym, ap, subst, ◌∙◌, inl, inr, arith}
use Rattle.std.specs.declared.cmp.Ordering.{Ordering}
use Rattle.std.specs.declared.cmp.Ordering.TheVariants.{Less as Lt, Equal, Greater}
use Rattle.std.specs.Ordering.{nat_cmp, ordering_then, ordering_reverse, MatchOrdering}
use Rattle.std.specs.Cmp.{IsTotalOrder}
use Rattle.std.specs.Cmp.Lexicographic.{slice_cmp}
use Rattle.std.specs.FinMap.{IsAntisymmetric, nat_cmp-IsAntisymmetric}
use Rattle.std.proofs.lemmas.Cmp.{ranked, tied_itself, nat_cmp_total}
use Rattle.std.proofs.lemmas.Bool.{lt-ltb}
use Rattle.std.proofs.lemmas.List.{length-append}
use Rattle.ndn_tlv.specs.Element.{Field}
use Rattle.ndn_names.specs.Key.{component_cmp-total, component_cmp-antisymmetric, name_cmp-total, name_cmp-antisymmetric}
use Rattle.ndn_names.specs.Order.{DiffersBelow, IsProperPrefix, OctetsLess, ComponentLess, Less, component_cmp, name_cmp}

-- if two comparisons in sequence return `Less`, either the first one returns `Less`, or the first
-- one returns `Equal` and the second one returns `Less`
then_less : (o p : Ordering) → ordering_then o p ≡ Lt → (o ≡ Lt) ⊎ ((o ≡ Equal) × (p ≡ Lt))
then_less Lt p e = inl refl
then_less Equal p e = inr (refl, e)
then_less Greater p e = absurd cc

-- ---- a list that is less than another list

-- if the list `a` is less than the list `b`, then `x ∷ a` is less than `x ∷ b`
later : {X : Type 0} {Below : X → X → Type 0} (x : X) (a b : List X) → IsProperPrefix a b ⊎ DiffersBelow Below a b → IsProperPrefix (x ∷ a) (x ∷ b) ⊎ DiffersBelow Below (x ∷ a) (x ∷ b)
later {X = X} x a b (inl p) = inl (p.0, p.1, ap (λ (t : List X). x ∷ t) p.2)
later {X = X} x a b (inr d) = inr (x ∷ d.0, d.1, d.2, d.3, d.4, ap (λ (t : List X). x ∷ t) d.5, ap (λ (t : List X). x ∷ t) d.6, d.7)

pub differs_from_cmp : {X : Type 0} {R : X → X → Ordering} {Below : X → X → Type 0} → ((x y : X) → R x y ≡ Lt → Below x y) → IsAntisymmetric R → (a b : List X) → slice_cmp R a b ≡ Lt → IsProperPrefix a b ⊎ DiffersBelow Below a b
differs_from_cmp below same [] [] e = absurd cc
differs_from_cmp below same [] (y ∷ ys) e = inl (y, ys, refl)
differs_from_cmp below same (x ∷ xs) [] e = absurd cc
differs_from_cmp {X} {R} {Below} below same (x ∷ xs) (y ∷ ys) e =
    elim (then_less (R x y) (slice_cmp R xs ys) e) [
      | inl lt ↦ inr ([], xs, ys, x, y, refl, refl, below x y lt)
      | inr p ↦ subst (λ (z : X). IsProperPrefix (x ∷ xs) (z ∷ ys) ⊎ DiffersBelow Below (x ∷ xs) (z ∷ ys)) (same x y p.0) (later x xs ys (differs_from_cmp below same xs ys p.1))
    ]

pub cmp_after : {X : Type 0} {R : X → X → Ordering} → IsTotalOrder R → (front a b : List X) → slice_cmp R (front ++ a) (front ++ b) ≡ slice_cmp R a b
cmp_after total [] a b = refl
cmp_after {R = R} total (x ∷ front) a b = ap (λ (o : Ordering). ordering_then o (slice_cmp R (front ++ a) (front ++ b))) (tied_itself total x) ∙ cmp_after total front a b

pub cmp_from_prefix : {X : Type 0} {R : X → X → Ordering} → IsTotalOrder R → (a b : List X) → IsProperPrefix a b → slice_cmp R a b ≡ Lt
cmp_from_prefix {R = R} total [] b p = ap (slice_cmp R []) p.2
cmp_from_prefix {R = R} total (x ∷ xs) b p = ap (slice_cmp R (x ∷ xs)) p.2 ∙ ap (λ (o : Ordering). ordering_then o (slice_cmp R xs (xs ++ p.0 ∷ p.1))) (tied_itself total x) ∙ cmp_from_prefix total xs (xs ++ p.0 ∷ p.1) (p.0, p.1, refl)

pub cmp_from_differs : {X : Type 0} {R : X → X → Ordering} {Below : X → X → Type 0} → IsTotalOrder R → ((x y : X) → Below x y → R x y ≡ Lt) → (a b : List X) → DiffersBelow Below a b → slice_cmp R a b ≡ Lt
cmp_from_differs {X = X} {R = R} total less a b d =
    ap (λ (t : List X). slice_cmp R t b) d.5 ∙ ap (slice_cmp R (d.0 ++ d.3 ∷ d.1)) d.6 ∙ cmp_after total d.0 (d.3 ∷ d.1) (d.4 ∷ d.2) ∙ ap (λ (o : Ordering). ordering_then o (slice_cmp R d.1 d.2)) (less d.3 d.4 d.7)

-- ---- the order of octets

nat_below : (x y : ℕ) → nat_cmp x y ≡ Lt → x < y
nat_below x y e = ranked x y Lt (sym e)

nat_less : (x y : ℕ) → x < y → nat_cmp x y ≡ Lt
nat_less x y lt = rw (lt-ltb x y lt) refl

nat_ties : (x y : ℕ) → x ≡ y → nat_cmp x y ≡ Equal
nat_ties x y e = ap (nat_cmp x) (sym e) ∙ tied_itself nat_cmp_total x

octets_below : (a b : List ℕ) → length a ≡ length b → slice_cmp nat_cmp a b ≡ Lt → OctetsLess a b
octets_below a b len e =
    elim (differs_from_cmp nat_below nat_cmp-IsAntisymmetric a b e) [
      | inl p ↦ absurd (omega (arith, len, ap length p.2, length-append a (p.0 ∷ p.1)))
      | inr d ↦ d
    ]

-- ---- the order of components

pub component_below : (x y : Field) → component_cmp x y ≡ Lt → ComponentLess x y
component_below x y e =
    elim (then_less _ _ e) [
      | inl lt ↦ inl (nat_below x.0 y.0 lt)
      | inr p ↦
          elim (then_less _ _ p.1) [
            | inl lt ↦ inr (inl (nat_cmp-IsAntisymmetric x.0 y.0 p.0, nat_below (length x.1) (length y.1) lt))
            | inr q ↦
                let len = nat_cmp-IsAntisymmetric (length x.1) (length y.1) q.0 in
                inr (inr (nat_cmp-IsAntisymmetric x.0 y.0 p.0, len, octets_below x.1 y.1 len q.1))
          ]
    ]

pub component_less : (x y : Field) → ComponentLess x y → component_cmp x y ≡ Lt
component_less x y (inl lt) = rw (nat_less x.0 y.0 lt) refl
component_less x y (inr (inl p)) = rw (nat_ties x.0 y.0 p.0, nat_less (length x.1) (length y.1) p.1) refl
component_less x y (inr (inr p)) = rw (nat_ties x.0 y.0 p.0, nat_ties (length x.1) (length y.1) p.1, cmp_from_differs nat_cmp_total nat_less x.1 y.1 p.2) refl

-- ---- the order of names

pub less-name_cmp : (a b : List Field) → name_cmp a b ≡ Lt → Less a b
less-name_cmp a b e = differs_from_cmp component_below component_cmp-antisymmetric a b e

pub name_cmp-less : (a b : List Field) → Less a b → name_cmp a b ≡ Lt
name_cmp-less a b (inl p) = cmp_from_prefix component_cmp-total a b p
name_cmp-less a b (inr d) = cmp_from_differs component_cmp-total component_less a b d

pub name_cmp-equal : (a b : List Field) → a ≡ b → name_cmp a b ≡ Equal
name_cmp-equal a b e = ap (name_cmp a) (sym e) ∙ tied_itself name_cmp-total a

reverse_greater : (o p : Ordering) → o ≡ ordering_reverse p → o ≡ Greater → p ≡ Lt
reverse_greater o Lt e g = refl
reverse_greater o Equal e g = absurd cc
reverse_greater o Greater e g = absurd cc

pub greater-name_cmp : (a b : List Field) → name_cmp a b ≡ Greater → Less b a
greater-name_cmp a b e = less-name_cmp b a (reverse_greater _ _ (name_cmp-total.antisymm a b) e)

pub name_cmp-greater : (a b : List Field) → Less b a → name_cmp a b ≡ Greater
name_cmp-greater a b h = name_cmp-total.antisymm a b ∙ ap ordering_reverse (name_cmp-less b a h)

pub Less-irreflexive : (a : List Field) → Less a a → ⊥
Less-irreflexive a h = let e : Lt ≡ Equal = sym (name_cmp-less a a h) ∙ name_cmp-equal a a refl in absurd cc

pub Less-transitive : (a b c : List Field) → Less a b → Less b c → Less a c
Less-transitive a b c h k = less-name_cmp a c (name_cmp-total.trans a b c (name_cmp-less a b h) (name_cmp-less b c k))

-- if `name_cmp a b` is `Less`, `a` is less than `b`; if `name_cmp a b` is `Equal`, `a` and `b` are
-- equal; if `name_cmp a b` is `Greater`, `b` is less than `a`
pub MatchOrdering-name_cmp : (a b : List Field) → MatchOrdering (name_cmp a b) (Less a b) (a ≡ b) (Less b a)
MatchOrdering-name_cmp a b =
    elim (name_cmp a b) as (λ o. name_cmp a b ≡ o → MatchOrdering o (Less a b) (a ≡ b) (Less b a)) [
      | Lt ↦ less-name_cmp a b
      | Equal ↦ name_cmp-antisymmetric a b
      | Greater ↦ greater-name_cmp a b
    ] refl

pub Less-total : (a b : List Field) → Less a b ⊎ ((a ≡ b) ⊎ Less b a)
Less-total a b =
    elim (name_cmp a b) as (λ o. MatchOrdering o (Less a b) (a ≡ b) (Less b a) → Less a b ⊎ ((a ≡ b) ⊎ Less b a)) [
      | Lt ↦ λ h. inl h
      | Equal ↦ λ h. inr (inl h)
      | Greater ↦ λ h. inr (inr h)
    ] (MatchOrdering-name_cmp a b)
