-- Octets have at most one cut before the first element of a type, and `from_first` finds this cut.
use Rattle.std.proofs.Common.{◌≡◌, ◌≢◌, ℕ, zero, suc, ◌<◌, ◌≤◌, true, false, cond, eqb, List, [], ◌∷◌, ◌++◌, length, Option, None, Some, Result, Ok, Err, refl, sym, ap, subst, ◌∙◌, append_assoc, arith, eq-eqb}
use Rattle.std.specs.List.{flat_map, AllByRecursion}
use Rattle.std.proofs.lemmas.List.{length-append}
use Rattle.std.proofs.lemmas.Grind.{flat_map-append}
use Rattle.std.proofs.lemmas.Bool.{eqb-true, eqb-false, ne_eqb}
use Rattle.ndn_tlv.specs.declared.fault.TlvFault.{TlvFault}
use Rattle.ndn_tlv.specs.Element.{Field, IsField, element}
use Rattle.ndn_tlv.specs.Reading.{on_result, element_at}
use Rattle.ndn_tlv.proofs.Numbers.{IsBytes, IsBytes-back}
use Rattle.ndn_tlv.proofs.Fields.{element_again, element_found, element_leaves}
use Rattle.ndn_packets.specs.Covered.{IsCut, from_within, from_first}
use Rattle.ndn_packets.proofs.Steps.{some_is, none_is_not_some}

-- ---- one step of `from_first`

abbrev step : ℕ → List ℕ → (List ℕ → Option (List ℕ)) → Result (Field × List ℕ) TlvFault → Option (List ℕ)
step kind octets further r = on_result (λ x. cond (eqb x.0.0 kind) (Some octets) (further x.1)) (λ _. None) r

same_step : (r : Result (Field × List ℕ) TlvFault) (kind : ℕ) (octets : List ℕ) (k g : List ℕ → Option (List ℕ)) → ((x : Field × List ℕ) → r ≡ Ok x → k x.1 ≡ g x.1) → step kind octets k r ≡ step kind octets g r
same_step (Ok x) kind octets k g h = ap (cond (eqb x.0.0 kind) (Some octets)) (h x refl)
same_step (Err f) kind octets k g h = refl

no_step : (r : Result (Field × List ℕ) TlvFault) (kind : ℕ) (octets : List ℕ) (further : List ℕ → Option (List ℕ)) → ((x : Field × List ℕ) → r ≡ Ok x → ⊥) → step kind octets further r ≡ None
no_step (Ok x) kind octets further h = absurd (h x refl)
no_step (Err f) kind octets further h = refl

nothing_in : (kind : ℕ) (further : List ℕ → Option (List ℕ)) → step kind [] further (element_at []) ≡ None
nothing_in kind further = no_step (element_at []) kind [] further (λ x e. (let none : length x.1 < 0 = element_leaves [] x e in absurd (omega arith)))

-- `from_within` returns the same result for every limit that is at least the number of octets
within_same : (n m kind : ℕ) (octets : List ℕ) → length octets ≤ n → length octets ≤ m → from_within n kind octets ≡ from_within m kind octets
unfolding from_within
within_same zero zero kind octets p q = refl
within_same zero (suc m) kind [] p q = sym (nothing_in kind (from_within m kind))
within_same zero (suc m) kind (b ∷ octets) p q = absurd (omega arith)
within_same (suc n) zero kind [] p q = nothing_in kind (from_within n kind)
within_same (suc n) zero kind (b ∷ octets) p q = absurd (omega arith)
within_same (suc n) (suc m) kind octets p q =
    same_step (element_at octets) kind octets (from_within n kind) (from_within m kind) (λ x e. within_same n m kind x.1 (omega (arith, element_leaves octets x e)) (omega (arith, element_leaves octets x e)))

from_first-next : (kind : ℕ) (octets : List ℕ) → from_first kind octets ≡ step kind octets (from_first kind) (element_at octets)
unfolding from_first from_within
from_first-next kind [] = sym (nothing_in kind (from_first kind))
from_first-next kind (b ∷ octets) =
    same_step (element_at (b ∷ octets)) kind (b ∷ octets) (from_within (length octets) kind) (from_first kind)
    (λ x e. within_same (length octets) (length x.1) kind x.1 (omega (arith, element_leaves (b ∷ octets) x e)) (omega arith))

pub next_is : (kind : ℕ) (octets : List ℕ) (e : Field) (after : List ℕ) → Ok (e, after) ≡ element_at octets → e.0 ≡ kind → from_first kind octets ≡ Some octets
next_is kind octets e after read is = from_first-next kind octets ∙ ap (step kind octets (from_first kind)) (sym read) ∙ rw (eq-eqb e.0 kind is) refl

pub next_other : (kind : ℕ) (octets : List ℕ) (e : Field) (after : List ℕ) → Ok (e, after) ≡ element_at octets → e.0 ≢ kind → from_first kind octets ≡ from_first kind after
next_other kind octets e after read other = from_first-next kind octets ∙ ap (step kind octets (from_first kind)) (sym read) ∙ rw (ne_eqb e.0 kind other) refl

pub next_none : (kind : ℕ) (octets : List ℕ) (f : TlvFault) → Err f ≡ element_at octets → from_first kind octets ≡ None
next_none kind octets f refused = from_first-next kind octets ∙ ap (step kind octets (from_first kind)) (sym refused)

-- ---- `from_first` finds the cut

cut_there : (kind : ℕ) (others : List Field) (value after : List ℕ) → AllByRecursion IsField others → IsField (kind, value) → AllByRecursion (λ e. e.0 ≢ kind) others
    → from_first kind (flat_map element others ++ (element (kind, value) ++ after)) ≡ Some (element (kind, value) ++ after)
cut_there kind [] value after fields field first_one =
    let here = element (kind, value) ++ after in
    next_is kind here (kind, value) after (sym (element_again (kind, value) after field)) refl
cut_there kind (e ∷ others) value after fields field first_one =
    let following = flat_map element others ++ (element (kind, value) ++ after) in
    let here = flat_map element (e ∷ others) ++ (element (kind, value) ++ after) in
    let is : here ≡ element e ++ following = append_assoc (element e) (flat_map element others) (element (kind, value) ++ after) in
    next_other kind here e following (sym (ap element_at is ∙ element_again e following fields.0)) first_one.0 ∙ cut_there kind others value after fields.1 field first_one.1

pub cut_read : (kind : ℕ) (octets before from : List ℕ) → IsCut kind octets before from → from_first kind octets ≡ Some from
cut_read kind octets before from h =
    ap (from_first kind) (h.octets_are ∙ (λ k. h.before_is k ++ h.from_is k)) ∙ cut_there kind h.others h.value h.after h.sizes.0 h.sizes.1 h.first_one ∙ ap (λ (t : List ℕ). Some t) (sym h.from_is)

-- the cut that `from_first` finds is the only cut before the first element of type `kind`
pub cut_is : (kind : ℕ) (octets from before other : List ℕ) → from_first kind octets ≡ Some from → IsCut kind octets before other → from ≡ other
cut_is kind octets from before other read h = some_is from other (sym read ∙ cut_read kind octets before other h)

pub never_cut : (kind : ℕ) (octets before from : List ℕ) → from_first kind octets ≡ None → IsCut kind octets before from → ⊥
never_cut kind octets before from none h = none_is_not_some from (sym none ∙ cut_read kind octets before from h)

-- if no element has type `kind`, `from_first` finds no cut
pub never_in : (kind : ℕ) (fields : List Field) → AllByRecursion IsField fields → AllByRecursion (λ e. e.0 ≢ kind) fields → from_first kind (flat_map element fields) ≡ None
never_in kind [] all others = from_first-next kind [] ∙ nothing_in kind (from_first kind)
never_in kind (e ∷ fields) all others =
    next_other kind (flat_map element (e ∷ fields)) e (flat_map element fields) (sym (element_again e (flat_map element fields) all.0)) others.0 ∙ never_in kind fields all.1 others.1

-- ---- what `from_first` finds is a cut

cut_first : (octets : List ℕ) (e : Field) (after : List ℕ) → IsField e → octets ≡ element e ++ after → IsCut e.0 octets [] octets
cut_first octets e after field is = record { others = []; value = e.1; after = after; sizes = (tt, field); first_one = tt; before_is = refl; from_is = is; octets_are = refl }

cut_later : (kind : ℕ) (octets : List ℕ) (e : Field) (after before from : List ℕ) → IsField e → e.0 ≢ kind → octets ≡ element e ++ after → IsCut kind after before from → IsCut kind octets (element e ++ before) from
cut_later kind octets e after before from field other is h = record {
  others = e ∷ h.others;
  value = h.value;
  after = h.after;
  sizes = ((field, h.sizes.0), h.sizes.1);
  first_one = (other, h.first_one);
  before_is = ap (λ (t : List ℕ). element e ++ t) h.before_is;
  from_is = h.from_is;
  octets_are = is ∙ ap (λ (t : List ℕ). element e ++ t) h.octets_are ∙ sym (append_assoc (element e) before from);
}

abbrev SomeCut : ℕ → List ℕ → List ℕ → Type 0
SomeCut kind octets from = (before : List ℕ) × IsCut kind octets before from

found_within : (n kind : ℕ) (octets from : List ℕ) → IsBytes octets → from_within n kind octets ≡ Some from → SomeCut kind octets from
unfolding from_within
found_within zero kind octets from fits e = absurd (none_is_not_some from e)
found_within (suc n) kind octets from fits e =
    elim (element_at octets) as (λ r. element_at octets ≡ r → step kind octets (from_within n kind) r ≡ Some from → SomeCut kind octets from) [
      | Err f ↦ λ _ e. absurd (none_is_not_some from e)
      | Ok x ↦ λ read e.
          let front = element_found octets x.0 x.1 fits read in
          elim (eqb x.0.0 kind) as (λ b. eqb x.0.0 kind ≡ b → cond b (Some octets) (from_within n kind x.1) ≡ Some from → SomeCut kind octets from) [
            | true ↦ λ is e. ([], subst (λ (t : List ℕ). IsCut kind octets [] t) (some_is octets from e) (subst (λ k. IsCut k octets [] octets) (eqb-true x.0.0 kind is) (cut_first octets x.0 x.1 front.0 front.1)))
            | false ↦ λ other e.
                let later = found_within n kind x.1 from (IsBytes-back (element x.0) x.1 (subst IsBytes front.1 fits)) e in
                (element x.0 ++ later.0, cut_later kind octets x.0 x.1 later.0 from front.0 (eqb-false x.0.0 kind other) front.1 later.1)
          ] refl e
    ] refl e

pub cut_found : (kind : ℕ) (octets from : List ℕ) → IsBytes octets → from_first kind octets ≡ Some from → SomeCut kind octets from
unfolding from_first
cut_found kind octets from fits e = found_within (length octets) kind octets from fits e

pub cut_within : (kind : ℕ) (octets from : List ℕ) → IsBytes octets → from_first kind octets ≡ Some from → length from ≤ length octets
cut_within kind octets from fits e =
    let cut = cut_found kind octets from fits e in
    omega (arith, ap length cut.1.octets_are, length-append cut.0 from)

-- ---- cuts in the octets of a list of elements

pub all_front : {A : Type 0} (P : A → Type 0) (front back : List A) → AllByRecursion P (front ++ back) → AllByRecursion P front × AllByRecursion P back
all_front P [] back h = (tt, h)
all_front P (x ∷ front) back h = let r = all_front P front back h.1 in ((h.0, r.0), r.1)

-- if no field in `front` has type `kind`, the cut of `front ++ (kind, value) ∷ back` before the
-- first field of type `kind` is directly after `front`
pub cut_among : (kind : ℕ) (value : List ℕ) (fields front back : List Field) → AllByRecursion IsField fields → fields ≡ front ++ (kind, value) ∷ back → AllByRecursion (λ e. e.0 ≢ kind) front
    → IsCut kind (flat_map element fields) (flat_map element front) (flat_map element ((kind, value) ∷ back))
cut_among kind value fields front back all is others =
    let sizes = all_front IsField front ((kind, value) ∷ back) (subst (AllByRecursion IsField) is all) in
    record {
      others = front;
      value = value;
      after = flat_map element back;
      sizes = (sizes.0, sizes.1.0);
      first_one = others;
      before_is = refl;
      from_is = refl;
      octets_are = ap (flat_map element) is ∙ flat_map-append element front ((kind, value) ∷ back);
    }
