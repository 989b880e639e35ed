-- What follows if a step of a reader succeeds.
use Rattle.std.proofs.Common.{◌≡◌, ◌≢◌, ℕ, ◌≤◌, Bool, true, false, cond, eqb, List, [], ◌∷◌, ◌++◌, length, Option, Some, None, Result, Ok, Err, refl, ap, subst, ◌∙◌}
use Rattle.std.specs.List.{AllByRecursion, flat_map}
use Rattle.std.proofs.lemmas.Bool.{eqb-true}
use Rattle.std.proofs.lemmas.List.{take_at}
use Rattle.ndn_tlv.specs.declared.fault.TlvFault.{TlvFault}
use Rattle.ndn_tlv.specs.Number.{spelling}
use Rattle.ndn_tlv.specs.Element.{Field, element, IsElement}
use Rattle.ndn_tlv.specs.Reading.{◌>>=◌, on_result}
use Rattle.ndn_tlv.proofs.Numbers.{IsBytes, IsBytes-take, IsBytes-back}
use Rattle.ndn_names.specs.Reading.{name_at}
use Rattle.ndn_packets.specs.declared.fault.PacketFault.{PacketFault}
use Rattle.ndn_packets.specs.declared.fault.PacketFault.TheVariants.{NoName, BadField}
use Rattle.ndn_packets.specs.Reading.{name_value_at, leading_name_at, is_nil, found_or}
use Rattle.ndn_packets.specs.PacketFaults.{Leads}
use Rattle.ndn_packets.proofs.Rules.{is_nil-true}

-- ---- the results of steps that may fail

pub bind_ok : {A B : Type 0} (r : Result A PacketFault) (f : A → Result B PacketFault) (y : B) → (r >>= f) ≡ Ok y → (x : A) × (r ≡ Ok x) × (f x ≡ Ok y)
bind_ok (Ok x) f y e = (x, refl, e)
bind_ok (Err d) f y e = absurd cc

pub guard_ok : {A : Type 0} (b : Bool) (d : PacketFault) (r : Result A PacketFault) (y : A) → cond b (Err d) r ≡ Ok y → (b ≡ false) × (r ≡ Ok y)
guard_ok true d r y e = absurd cc
guard_ok false d r y e = (refl, e)

abbrev pub good : {A : Type 0} → A → Result A PacketFault
good x = Ok x

pub err_is_not_ok : {A : Type 0} (d : PacketFault) (y : A) → Err d ≡ good y → ⊥
err_is_not_ok d y e = cc

pub unless_ok : {A B : Type 0} (b : Bool) (d : PacketFault) (x : A) (f : A → Result B PacketFault) (y : B) → (cond b (Err d) (good x) >>= f) ≡ Ok y → (b ≡ false) × (f x ≡ Ok y)
unless_ok true d x f y e = absurd cc
unless_ok false d x f y e = (refl, e)

pub ok_is : {A : Type 0} (x y : A) → good x ≡ good y → x ≡ y
ok_is x y e = cc

pub found_some : {A : Type 0} (d : PacketFault) (o : Option A) (y : A) → found_or d o ≡ Ok y → o ≡ Some y
found_some d None y e = absurd cc
found_some d (Some x) y e = ap (λ z. Some z) (ok_is x y e)

pub some_is : {A : Type 0} (x y : A) → Some x ≡ Some y → x ≡ y
some_is x y e = cc

pub none_is_not_some : {A : Type 0} (y : A) → None ≡ Some y → ⊥
none_is_not_some y e = cc

pub both_tests : (b : Bool) → b ≡ false → b ≡ true → ⊥
both_tests b e g = cc

pub not_nil : {A : Type 0} (xs : List A) → is_nil xs ≡ false → xs ≢ []
not_nil xs e is = both_tests (is_nil xs) e (is_nil-true xs is)

abbrev pub read : Field → Result Field TlvFault
read f = Ok f

-- ---- each part of a list of octets consists of octets

pub IsBytes-front : (xs ys : List ℕ) → IsBytes (xs ++ ys) → IsBytes xs
IsBytes-front xs ys h = subst IsBytes (take_at xs ys (length xs) refl) (IsBytes-take (length xs) (xs ++ ys) h)

pub IsBytes-value : (f : Field) (rest : List ℕ) → IsBytes (element f ++ rest) → IsBytes f.1
IsBytes-value f rest h = IsBytes-back (spelling (length f.1)) f.1 (IsBytes-back (spelling f.0) (spelling (length f.1) ++ f.1) (IsBytes-front (element f) rest h))

pub IsBytes-inside : (text value : List ℕ) (kind : ℕ) → IsBytes text → IsElement text kind value → IsBytes value
IsBytes-inside text value kind fits outer = IsBytes-back (spelling (length value)) value (IsBytes-back (spelling kind) (spelling (length value) ++ value) (subst IsBytes outer.1 fits))

-- `text` is exactly one element, which has the type `kind` and the value `value`; `text` has at
-- most 8,800 octets
pub record IsOne (text : List ℕ) (kind : ℕ) (value : List ℕ) : Type 0 where
  pub outer : IsElement text kind value
  pub short : length text ≤ 8800
  pub octets : IsBytes text

pub IsBytes-of_one : (text value : List ℕ) (kind : ℕ) → IsOne text kind value → IsBytes value
IsBytes-of_one text value kind one = IsBytes-inside text value kind one.octets one.outer

pub IsBytes-fields : (fields : List Field) → IsBytes (flat_map element fields) → AllByRecursion (λ f. IsBytes f.1) fields
IsBytes-fields [] h = tt
IsBytes-fields (f ∷ fields) h = (IsBytes-value f (flat_map element fields) h, IsBytes-fields fields (IsBytes-back (element f) (flat_map element fields) h))

-- ---- the Name at the beginning of a packet

pub value_ok : {A F : Type 0} (r : Result A F) (y : A) → on_result (λ x. good x) (λ _. Err BadField) r ≡ Ok y → r ≡ Ok y
value_ok (Ok x) y e = ap (λ z. Ok z) (ok_is x y e)
value_ok (Err d) y e = absurd cc

pub lead : (elements : List (Result Field TlvFault)) (x : List Field × List (Result Field TlvFault)) → leading_name_at elements ≡ Ok x → Leads elements x.0 x.1
lead [] x e = absurd (err_is_not_ok _ x e)
lead (Err f ∷ elements) x e = absurd (err_is_not_ok _ x e)
lead (Ok f ∷ elements) x e =
    let b = bind_ok (cond (eqb f.0 7) (good (f.1, elements)) (Err NoName)) (λ first. name_value_at first.0 >>= λ name. Ok (name, first.1)) x e in
    elim (eqb f.0 7) as (λ t. eqb f.0 7 ≡ t → cond t (good (f.1, elements)) (Err NoName) ≡ Ok b.0 → Leads (Ok f ∷ elements) x.0 x.1) [
      | false ↦ λ _ e. absurd (err_is_not_ok _ b.0 e)
      | true ↦ λ is e.
          let same = ok_is (f.1, elements) b.0 e in
          let n = bind_ok (name_value_at b.0.0) (λ name. Ok (name, b.0.1)) x b.2 in
          let made = ok_is (n.0, b.0.1) x n.2 in
          let front : read (f.0, f.1) ∷ elements ≡ read (7, b.0.0) ∷ x.1 = λ k. read (eqb-true _ _ is k, (same k).0) ∷ ((ap (λ (p : List ℕ × List (Result Field TlvFault)). p.1) same ∙ ap (λ (p : List Field × List (Result Field TlvFault)). p.1) made) k) in
          record { value = b.0.0; front = front; name_is = value_ok (name_at b.0.0) n.0 n.1 ∙ ap (λ (p : List Field × List (Result Field TlvFault)). Ok p.0) made }
    ] refl b.1
