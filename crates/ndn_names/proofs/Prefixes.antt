-- Prefixes of names, and of their octets.
use Rattle.std.proofs.Common.{◌≡◌, ℕ, zero, suc, ◌+◌, ◌-◌, ◌<◌, ◌≤◌, Bool, List, [], ◌∷◌, ◌++◌, length, take, drop, Ok, Err, Result, refl, sym, ap, ◌∙◌, append_assoc, arith}
use Rattle.std.specs.Prelude.{◌↔◌, IsTrue, nat_eq, Option, Some, None, MatchOption}
use Rattle.std.specs.List.{AllByRecursion, starts_with}
use Rattle.std.proofs.lemmas.List.{length-append, take-append-drop, drop_more}
use Rattle.std.proofs.Math.Seq.{take-append_seam}
use Rattle.std.proofs.lemmas.List.Concat.{flat_map-append}
use Rattle.std.proofs.lemmas.Slice.Eq.{starts_is}
use Rattle.std.specs.Cmp.{unsigned_Decides}
use Rattle.ndn_tlv.specs.declared.fault.TlvFault.{TlvFault}
use Rattle.ndn_tlv.specs.Element.{Field, IsField, element}
use Rattle.ndn_tlv.specs.Reading.{element_at}
use Rattle.ndn_tlv.proofs.Fields.{element_again}
use Rattle.ndn_names.specs.Name.{IsComponent, IsNameValue, IsPrefix, octets_of, components_of}
use Rattle.ndn_names.proofs.Names.{is_shown}
use Rattle.ndn_names.proofs.OctetOrder.{element_first}

AllByRecursion-take : (P : Field → Type 0) (n : ℕ) (cs : List Field) → AllByRecursion P cs → AllByRecursion P (take n cs)
AllByRecursion-take P zero cs h = tt
AllByRecursion-take P (suc n) [] h = tt
AllByRecursion-take P (suc n) (c ∷ cs) h = (h.0, AllByRecursion-take P n cs h.1)

length-take-le : (n : ℕ) (cs : List Field) → length (take n cs) ≤ length cs
length-take-le n cs = omega (arith, ap length (take-append-drop n cs), length-append (take n cs) (drop n cs))

octets_cut : (n : ℕ) (cs : List Field) → octets_of cs ≡ octets_of (take n cs) ++ octets_of (drop n cs)
octets_cut n cs = ap octets_of (sym (take-append-drop n cs)) ∙ flat_map-append element (take n cs) (drop n cs)

-- if octets are `front` followed by `rest`, then `front` is these octets without the last
-- `length rest` octets
front_is : (octets front rest : List ℕ) → octets ≡ front ++ rest → (length rest ≤ length octets) × (take (length octets - length rest) octets ≡ front)
front_is octets front rest e =
    let lengths : length octets ≡ length front + length rest = ap length e ∙ length-append front rest in
    let place : length octets - length rest ≡ length front = omega arith in
    (omega arith, ap (λ (k : ℕ). take k octets) place ∙ ap (take (length front)) e ∙ take-append_seam front rest)

-- if an iterator still has to return the components from index i on, then after one more step it
-- still has to return the components from index i + 1 on
pub left_after : {X : Type 0} (view : X → Field) (r : Option X) (cs left after : List Field) (i : ℕ) → left ≡ drop i cs → i < length cs
    → MatchOption r ((left ≡ []) × (after ≡ [])) (λ x. left ≡ view x ∷ after) → after ≡ drop (i + 1) cs
left_after view None cs left after i e lt h =
    let more = sym h.0 ∙ e ∙ drop_more cs i (0, []) lt in absurd cc
left_after view (Some x) cs left after i e lt h =
    let more = sym h ∙ e ∙ drop_more cs i (0, []) lt in cc

-- if `rest` encodes all but the first n components of a name, the octets before `rest` are the
-- TLV-VALUE of the name that consists of these first n components
pub prefix_shown : (octets rest : List ℕ) (n i : ℕ) → IsNameValue octets (components_of octets) → IsNameValue rest (components_of rest) → components_of rest ≡ drop i (components_of octets) → i ≤ n → n ≤ i
    → (length rest ≤ length octets) × (components_of (take (length octets - length rest) octets) ≡ take n (components_of octets))
    × IsNameValue (take (length octets - length rest) octets) (components_of (take (length octets - length rest) octets))
prefix_shown octets rest n i h g left le ge =
    let cs = components_of octets in
    let front = octets_of (take n cs) in
    let after : octets_of (drop n cs) ≡ rest = ap (λ (k : ℕ). octets_of (drop k cs)) (omega (arith, le, ge)) ∙ ap octets_of (sym left) ∙ sym g.0.1 in
    let f = front_is octets front rest (h.0.1 ∙ octets_cut n cs ∙ ap (λ (t : List ℕ). front ++ t) after) in
    let shown = is_shown (take (length octets - length rest) octets) (take n cs)
    ((AllByRecursion-take IsField n cs h.0.0, f.1), (omega (arith, length-take-le n cs), AllByRecursion-take IsComponent n cs h.1.1)) in
    (f.0, shown.0, shown.1)

-- the name `cs` is a prefix of the name `ds` if the octets of `cs` are a prefix of those of `ds`
pub begins_with : (cs ds : List Field) (rest : List ℕ) → AllByRecursion IsField cs → AllByRecursion IsField ds → octets_of ds ≡ octets_of cs ++ rest → IsPrefix cs ds
begins_with [] ds rest h g e = (ds, refl)
begins_with (c ∷ cs) [] rest h g e =
    let first = element_first c (octets_of cs ++ rest) in
    absurd (omega (arith, ap length (e ∙ append_assoc (element c) (octets_of cs) rest ∙ first.2)))
begins_with (c ∷ cs) (d ∷ ds) rest h g e =
    let both = sym (element_again d (octets_of ds) g.0) ∙ ap element_at (e ∙ append_assoc (element c) (octets_of cs) rest) ∙ element_again c (octets_of cs ++ rest) h.0 in
    let same : d ≡ c = ap (front d) both in
    let after : octets_of ds ≡ octets_of cs ++ rest = ap (back (octets_of ds)) both in
    let p = begins_with cs ds rest h.1 g.1 after in
    (p.0, λ i. same i ∷ p.1 i)
  where
    front : Field → Result (Field × List ℕ) TlvFault → Field
    front d (Ok x) = x.0
    front d (Err f) = d

    back : List ℕ → Result (Field × List ℕ) TlvFault → List ℕ
    back d (Ok x) = x.1
    back d (Err f) = d

pub is_prefix-shown : (u v : List ℕ) (a b : List Field) (r : Bool) → IsNameValue u a → IsNameValue v b → r ≡ starts_with nat_eq v u → IsTrue r ↔ IsPrefix a b
is_prefix-shown u v a b r h g e =
    let s = starts_is unsigned_Decides v u r e in (
      λ t. let octets : octets_of b ≡ octets_of a ++ drop (length u) v = sym g.0.1 ∙ s.0 t ∙ ap (λ (x : List ℕ). x ++ drop (length u) v) h.0.1 in
          begins_with a b (drop (length u) v) h.0.0 g.0.0 octets,
      λ p. s.1 (octets_of p.0) (g.0.1 ∙ ap octets_of p.1 ∙ flat_map-append element a p.0 ∙ ap (λ (x : List ℕ). x ++ octets_of p.0) (sym h.0.1)),
    )
