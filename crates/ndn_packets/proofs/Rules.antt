-- What follows if a list is empty or not empty.
use Rattle.std.proofs.Common.{◌≡◌, ℕ, true, false, List, [], ◌∷◌, length, eqb, refl, ap, ◌∙◌}
use Rattle.std.proofs.lemmas.List.{nil_from_length}
use Rattle.std.proofs.lemmas.Bool.{eqb-true}
use Rattle.ndn_tlv.specs.Reading.{elements_of}
use Rattle.ndn_tlv.proofs.Fields.{elements_of-nil}
use Rattle.ndn_packets.specs.Reading.{is_nil}

pub is_nil-true : {A : Type 0} (xs : List A) → xs ≡ [] → is_nil xs ≡ true
is_nil-true [] e = refl
is_nil-true (x ∷ xs) e = absurd cc

pub is_nil-false : {A : Type 0} (xs : List A) → (xs ≡ [] → ⊥) → is_nil xs ≡ false
is_nil-false [] e = absurd (e refl)
is_nil-false (x ∷ xs) e = refl

pub elements_of-empty : (value : List ℕ) → eqb (length value) 0 ≡ true → elements_of value ≡ []
elements_of-empty value e = ap elements_of (nil_from_length value (eqb-true _ _ e)) ∙ elements_of-nil

pub ruleset nil_tests = (is_nil-true, is_nil-false)

pub ruleset no_elements = (elements_of-empty)
