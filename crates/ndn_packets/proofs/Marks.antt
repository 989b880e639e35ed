-- A reader of packets finds the start of a field at the first element of the field's type.
use Rattle.std.proofs.Common.{◌≡◌, ◌≢◌, ℕ, true, false, cond, eqb, List, [], ◌∷◌, ◌++◌, Option, None, Some, Ok, refl, sym, ap, subst, ◌∙◌, eq-eqb}
use Rattle.std.specs.Prelude.{IsSome, OnSome, option_map}
use Rattle.std.specs.List.{AllByRecursion}
use Rattle.std.proofs.lemmas.Bool.{eqb-true, eqb-false, ne_eqb}
use Rattle.ndn_tlv.specs.declared.element.Element.{Element}
use Rattle.ndn_tlv.specs.Reading.{element_at}
use Rattle.ndn_packets.specs.declared.field_reader.FieldReader.{FieldReader}
use Rattle.ndn_packets.specs.Fields.{needs_previous_field, interest_schema}
use Rattle.ndn_packets.specs.Packet.{PlainSignatureInfo}
use Rattle.ndn_packets.specs.FieldReader.{StandsHere}
use Rattle.ndn_packets.specs.Reading.{schema_after}
use Rattle.ndn_packets.specs.Covered.{from_first, IsSignedAt}
use Rattle.ndn_packets.proofs.Steps.{some_is, none_is_not_some}
use Rattle.ndn_packets.proofs.Cuts.{next_is, next_other}

-- if `octets` begin with an element that is not a field, and a field of type `kind` may still come,
-- then `from_first kind` returns the same result for `octets` as for `after`, which is the octets
-- after this element
pub skipped : (kind k : ℕ) (schema whole value octets after : List ℕ) → None ≡ schema_after k schema → schema ≡ whole → IsSome (schema_after kind whole) → Ok ((k, value), after) ≡ element_at octets → from_first kind octets ≡ from_first kind after
skipped kind k schema whole value octets after none same comes read =
    next_other kind octets (k, value) after read
    (λ is. let no : IsSome {T = List ℕ} None = subst IsSome (ap (λ j. schema_after j whole) (sym is) ∙ ap (schema_after k) (sym same) ∙ sym none) comes in absurd cc)

-- ---- the types that may come before and after a type in a schema

-- each type in `later` needs the previous field
abbrev pub IsTail : List ℕ → Type 0
IsTail later = (k : ℕ) → needs_previous_field k ≡ false → schema_after k later ≡ None

-- Conditions under which the reader finds where the field of type `kind` begins. Each type in
-- `later` needs the previous field. The type `kind` does not satisfy `P`. If `kind` needs the
-- previous field, no type satisfies `P`.
pub record IsMark (P : ℕ → Type 0) (kind : ℕ) (later : List ℕ) : Type 0 where
  pub tail : IsTail later
  pub apart : (k : ℕ) → P k → k ≢ kind
  pub near : needs_previous_field kind ≡ true → (k : ℕ) → P k → ⊥

-- `schema` lists types that satisfy `P`, then `kind`, and then the types in `later`
pub record Ahead (P : ℕ → Type 0) (kind : ℕ) (later schema : List ℕ) : Type 0 where
  pub front : List ℕ
  pub schema_is : schema ≡ front ++ kind ∷ later
  pub others : AllByRecursion P front

module _ (P : ℕ → Type 0) (kind : ℕ) (later : List ℕ) (m : IsMark P kind later) where
  -- if the next field has the type `k` and `k` is not `kind`, then `k` satisfies `P`, and a field
  -- of type `kind` may still come after this field
  other_met : (k : ℕ) (front after : List ℕ) → AllByRecursion P front → k ≢ kind → schema_after k (front ++ kind ∷ later) ≡ Some after → P k × Ahead P kind later after
  other_met k [] after all other e =
      elim (needs_previous_field k) as (λ b. needs_previous_field k ≡ b → cond b None (schema_after k later) ≡ Some after → P k × Ahead P kind later after) [
        | true ↦ λ _ e. absurd (none_is_not_some after e)
        | false ↦ λ loose e. absurd (none_is_not_some after (sym (m.tail k loose) ∙ e))
      ] refl (rw (ne_eqb kind k (λ is. other (sym is))) at e)
  other_met k (j ∷ front) after all other e =
      elim (eqb j k) as (λ b. eqb j k ≡ b → cond b (Some (front ++ kind ∷ later)) (cond (needs_previous_field k) None (schema_after k (front ++ kind ∷ later))) ≡ Some after → P k × Ahead P kind later after) [
        | true ↦ λ is e. (subst P (eqb-true j k is) all.0, record { front = front; schema_is = sym (some_is (front ++ kind ∷ later) after e); others = all.1 })
        | false ↦ λ _ e.
            elim (needs_previous_field k) as (λ b. cond b None (schema_after k (front ++ kind ∷ later)) ≡ Some after → P k × Ahead P kind later after) [
              | true ↦ λ e. absurd (none_is_not_some after e)
              | false ↦ λ e. other_met k front after all.1 other e
            ] e
      ] refl e

  own_met : (front after : List ℕ) → AllByRecursion P front → schema_after kind (front ++ kind ∷ later) ≡ Some after → after ≡ later
  own_met [] after all e = sym (some_is later after (rw (eq-eqb kind kind refl) at e))
  own_met (j ∷ front) after all e =
      elim (needs_previous_field kind) as (λ b. cond b None (schema_after kind (front ++ kind ∷ later)) ≡ Some after → after ≡ later) [
        | true ↦ λ e. absurd (none_is_not_some after e)
        | false ↦ λ e. own_met front after all.1 e
      ] (rw (ne_eqb j kind (m.apart j all.0)) at e)

  comes : (front : List ℕ) → AllByRecursion P front → IsSome (schema_after kind (front ++ kind ∷ later))
  comes [] all = rw (eq-eqb kind kind refl) refl
  comes (j ∷ front) all =
      elim (needs_previous_field kind) as (λ b. needs_previous_field kind ≡ b → IsSome (cond (eqb j kind) (Some (front ++ kind ∷ later)) (cond b None (schema_after kind (front ++ kind ∷ later))))) [
        | true ↦ λ near. absurd (m.near near j all.0)
        | false ↦ λ _. rw (ne_eqb j kind (m.apart j all.0)) (comes front all.1)
      ] refl

-- ---- a reader that waits for the field of a given type

-- the reader `fields` has passed no element of type `kind` in `text` yet, and a field of this type
-- may still come
pub record Awaits (P : ℕ → Type 0) (kind : ℕ) (later text : List ℕ) (fields : FieldReader) : Type 0 where
  pub ahead : Ahead P kind later fields.schema.now
  pub left : from_first kind text ≡ from_first kind fields.rest.now

placed : (P : ℕ → Type 0) (kind : ℕ) (later text : List ℕ) (before after : FieldReader) (e : Element) → IsMark P kind later → StandsHere before after e → Awaits P kind later text before → from_first kind text ≡ from_first kind after.here.now
placed P kind later text before after e m here h = h.left ∙ here.place kind (subst (λ (s : List ℕ). IsSome (schema_after kind s)) (sym h.ahead.schema_is) (comes P kind later m h.ahead.front h.ahead.others))

-- if the reader awaits `kind` and returns a field of another type, this type satisfies `P`, and the
-- reader still awaits `kind`
pub awaits_still : (P : ℕ → Type 0) (kind : ℕ) (later text : List ℕ) (before after : FieldReader) (e : Element) → IsMark P kind later → StandsHere before after e → e.kind ≢ kind → Awaits P kind later text before
    → P e.kind × Awaits P kind later text after
awaits_still P kind later text before after e m here other h =
    let met = other_met P kind later m e.kind h.ahead.front after.schema.now h.ahead.others other (ap (schema_after e.kind) (sym h.ahead.schema_is) ∙ here.schema) in
    (met.0, record { ahead = met.1; left = placed P kind later text before after e m here h ∙ next_other kind after.here.now (e.kind, e.value.now) after.rest.now here.here other })

-- if the reader awaits `kind` and returns a field of this type, the types in `later` remain, and
-- the reader's `here` is the input from the first element of this type on
pub awaits_met : (P : ℕ → Type 0) (kind : ℕ) (later text : List ℕ) (before after : FieldReader) (e : Element) → IsMark P kind later → StandsHere before after e → e.kind ≡ kind → Awaits P kind later text before
    → (after.schema.now ≡ later) × (from_first kind text ≡ Some after.here.now)
awaits_met P kind later text before after e m here is h = (
  own_met P kind later m h.ahead.front after.schema.now h.ahead.others (ap (schema_after kind) (sym h.ahead.schema_is) ∙ ap (λ k. schema_after k before.schema.now) (sym is) ∙ here.schema),
  placed P kind later text before after e m here h ∙ next_is kind after.here.now (e.kind, e.value.now) after.rest.now here.here is,
)

-- the property that no type has, which serves as `P` if `kind` needs the previous field
abbrev pub Never : ℕ → Type 0
Never k = ⊥

pub awaits_next : (kind : ℕ) (later : List ℕ) (after : FieldReader) (e : Element) (before : FieldReader) → StandsHere before after e → e.kind ≢ kind → after.schema.now ≡ kind ∷ later → Awaits Never kind later after.here.now after
awaits_next kind later after e before here other schema = record {
  ahead = record { front = []; schema_is = schema; others = tt };
  left = next_other kind after.here.now (e.kind, e.value.now) after.rest.now here.here other;
}

pub nothing_comes : (before after : FieldReader) (e : Element) → StandsHere before after e → before.schema.now ≡ [] → ⊥
nothing_comes before after e here none = none_is_not_some after.schema.now (ap (schema_after e.kind) (sym none) ∙ here.schema)

-- ---- what the reader of a Data has found so far

-- the types of MetaInfo, Content and SignatureInfo
abbrev IsEarly : ℕ → Type 0
IsEarly k = (k ≢ 23) × (k ≢ 20 → k ≢ 21 → k ≢ 22 → ⊥)

value_mark : IsMark IsEarly 23 []
value_mark = record { tail = λ k loose. refl; apart = λ k early. early.0; near = λ near k early. absurd cc }

-- Until the SignatureValue is read, the reader of a Data awaits it. After the SignatureValue, no
-- more fields may come, and `from` is the input from the SignatureValue on.
abbrev pub DataMark : List ℕ → FieldReader → Option (List ℕ) → List ℕ → Type 0
DataMark text fields None from = Awaits IsEarly 23 [] text fields
DataMark text fields (Some value) from = (fields.schema.now ≡ []) × (from_first 23 text ≡ Some from)

pub data_first : (text : List ℕ) (fields : FieldReader) (from : List ℕ) → fields.schema.now ≡ 20 ∷ 21 ∷ 22 ∷ 23 ∷ [] → fields.rest.now ≡ text → DataMark text fields None from
data_first text fields from schema rest = record {
  ahead = record {
    front = 20 ∷ 21 ∷ 22 ∷ [];
    schema_is = schema;
    others = ((eqb-false 20 23 refl, λ a b c. a refl), ((eqb-false 21 23 refl, λ a b c. b refl), ((eqb-false 22 23 refl, λ a b c. c refl), tt)));
  };
  left = ap (from_first 23) (sym rest);
}

pub data_still : (text : List ℕ) (before after : FieldReader) (e : Element) (value : Option (List ℕ)) (from : List ℕ) → StandsHere before after e → e.kind ≢ 23 → DataMark text before value from → DataMark text after value from
data_still text before after e None from here other h = (awaits_still IsEarly 23 [] text before after e value_mark here other h).1
data_still text before after e (Some value) from here other h = absurd (nothing_comes before after e here h.0)

pub data_value : (text : List ℕ) (before after : FieldReader) (e : Element) (value : Option (List ℕ)) (from : List ℕ) → StandsHere before after e → e.kind ≢ 20 → e.kind ≢ 21 → e.kind ≢ 22 → DataMark text before value from
    → DataMark text after (Some e.value.now) after.here.now
data_value text before after e None from here a b c h =
    elim (eqb e.kind 23) as (λ t. eqb e.kind 23 ≡ t → DataMark text after (Some e.value.now) after.here.now) [
      | true ↦ λ is. awaits_met IsEarly 23 [] text before after e value_mark here (eqb-true e.kind 23 is) h
      | false ↦ λ other. absurd ((awaits_still IsEarly 23 [] text before after e value_mark here (eqb-false e.kind 23 other) h).0.1 a b c)
    ] refl
data_value text before after e (Some value) from here a b c h = absurd (nothing_comes before after e here h.0)

-- ---- what the reader of an Interest has found so far

-- a type that is not ApplicationParameters and does not need the previous field
abbrev IsFront : ℕ → Type 0
IsFront k = (k ≢ 36) × (needs_previous_field k ≡ false)

none_after : (k kind : ℕ) (later : List ℕ) → needs_previous_field kind ≡ true → needs_previous_field k ≡ false → schema_after k later ≡ None → schema_after k (kind ∷ later) ≡ None
none_after k kind later need loose none = rw (ne_eqb kind k (λ is. (let both = sym (ap needs_previous_field is) ∙ need in let no = sym loose ∙ both in absurd cc)), loose) none

parameters_mark : IsMark IsFront 36 (44 ∷ 46 ∷ [])
parameters_mark = record {
  tail = λ k loose. none_after k 44 (46 ∷ []) refl loose (none_after k 46 [] refl loose refl);
  apart = λ k front. front.0;
  near = λ near k front. absurd cc;
}

info_mark : IsMark Never 44 (46 ∷ [])
info_mark = record { tail = λ k loose. none_after k 46 [] refl loose refl; apart = λ k never. absurd never; near = λ near k never. never }

signature_mark : IsMark Never 46 []
signature_mark = record { tail = λ k loose. refl; apart = λ k never. absurd never; near = λ near k never. never }

-- The reader of an Interest awaits the ApplicationParameters, then the InterestSignatureInfo, and
-- then the InterestSignatureValue. Once the ApplicationParameters have been read, `p` is the input
-- from the start of this element on. Once the InterestSignatureValue has been read, `v` is the
-- input from the start of this element on.
abbrev pub InterestMark : List ℕ → FieldReader → Option (List ℕ) → Option PlainSignatureInfo → Option (List ℕ) → List ℕ → List ℕ → Type 0
InterestMark text fields None None None p v = Awaits IsFront 36 (44 ∷ 46 ∷ []) text fields
InterestMark text fields None None (Some value) p v = ⊥
InterestMark text fields None (Some info) value p v = ⊥
InterestMark text fields (Some parameters) None None p v = (from_first 36 text ≡ Some p) × Awaits Never 44 (46 ∷ []) p fields
InterestMark text fields (Some parameters) None (Some value) p v = ⊥
InterestMark text fields (Some parameters) (Some info) None p v = (from : List ℕ) × (from_first 36 text ≡ Some p) × (from_first 44 p ≡ Some from) × Awaits Never 46 [] from fields
InterestMark text fields (Some parameters) (Some info) (Some value) p v = (fields.schema.now ≡ []) × IsSignedAt text p v

pub interest_first : (text : List ℕ) (fields : FieldReader) (p v : List ℕ) → fields.schema.now ≡ interest_schema → fields.rest.now ≡ text → InterestMark text fields None None None p v
interest_first text fields p v schema rest = record {
  ahead = record {
    front = 33 ∷ 18 ∷ 30 ∷ 10 ∷ 12 ∷ 34 ∷ [];
    schema_is = schema;
    others = (
      (eqb-false 33 36 refl, refl),
      ((eqb-false 18 36 refl, refl), ((eqb-false 30 36 refl, refl), ((eqb-false 10 36 refl, refl), ((eqb-false 12 36 refl, refl), ((eqb-false 34 36 refl, refl), tt))))),
    );
  };
  left = ap (from_first 36) (sym rest);
}

pub interest_still : (text : List ℕ) (before after : FieldReader) (e : Element) (a : Option (List ℕ)) (b : Option PlainSignatureInfo) (c : Option (List ℕ)) (p v : List ℕ) → StandsHere before after e → e.kind ≢ 36 → e.kind ≢ 44 → e.kind ≢ 46
    → InterestMark text before a b c p v → InterestMark text after a b c p v
interest_still text before after e None None None p v here x y z h = (awaits_still IsFront 36 (44 ∷ 46 ∷ []) text before after e parameters_mark here x h).1
interest_still text before after e None None (Some w) p v here x y z h = h
interest_still text before after e None (Some i) c p v here x y z h = h
interest_still text before after e (Some q) None None p v here x y z h = absurd (awaits_still Never 44 (46 ∷ []) p before after e info_mark here y h.1).0
interest_still text before after e (Some q) None (Some w) p v here x y z h = h
interest_still text before after e (Some q) (Some i) None p v here x y z h = absurd (awaits_still Never 46 [] h.0 before after e signature_mark here z h.3).0
interest_still text before after e (Some q) (Some i) (Some w) p v here x y z h = absurd (nothing_comes before after e here h.0)

other_kind : (kind k l : ℕ) → kind ≡ k → k ≢ l → kind ≢ l
other_kind kind k l is other same = other (sym is ∙ same)

pub interest_parameters : (text : List ℕ) (before after : FieldReader) (e : Element) (a : Option (List ℕ)) (b : Option PlainSignatureInfo) (c : Option (List ℕ)) (p v : List ℕ) → StandsHere before after e → e.kind ≡ 36
    → InterestMark text before a b c p v → InterestMark text after (Some e.value.now) b c after.here.now v
interest_parameters text before after e None None None p v here is h =
    let met = awaits_met IsFront 36 (44 ∷ 46 ∷ []) text before after e parameters_mark here is h in
    (met.1, awaits_next 44 (46 ∷ []) after e before here (other_kind e.kind 36 44 is (eqb-false 36 44 refl)) met.0)
interest_parameters text before after e None None (Some w) p v here is h = absurd h
interest_parameters text before after e None (Some i) c p v here is h = absurd h
interest_parameters text before after e (Some q) None None p v here is h = absurd (awaits_still Never 44 (46 ∷ []) p before after e info_mark here (other_kind e.kind 36 44 is (eqb-false 36 44 refl)) h.1).0
interest_parameters text before after e (Some q) None (Some w) p v here is h = absurd h
interest_parameters text before after e (Some q) (Some i) None p v here is h = absurd (awaits_still Never 46 [] h.0 before after e signature_mark here (other_kind e.kind 36 46 is (eqb-false 36 46 refl)) h.3).0
interest_parameters text before after e (Some q) (Some i) (Some w) p v here is h = absurd (nothing_comes before after e here h.0)

needs_more : (kind k : ℕ) → kind ≡ k → needs_previous_field k ≡ true → needs_previous_field kind ≡ false → ⊥
needs_more kind k is need loose = (let both = sym (ap needs_previous_field is) ∙ loose in let no = sym need ∙ both in absurd cc)

pub interest_info : (text : List ℕ) (before after : FieldReader) (e : Element) (a : Option (List ℕ)) (b : Option PlainSignatureInfo) (info : PlainSignatureInfo) (c : Option (List ℕ)) (p v : List ℕ) → StandsHere before after e → e.kind ≡ 44
    → InterestMark text before a b c p v → InterestMark text after a (Some info) c p v
interest_info text before after e None None info None p v here is h =
    absurd (needs_more e.kind 44 is refl (awaits_still IsFront 36 (44 ∷ 46 ∷ []) text before after e parameters_mark here (other_kind e.kind 44 36 is (eqb-false 44 36 refl)) h).0.1)
interest_info text before after e None None info (Some w) p v here is h = absurd h
interest_info text before after e None (Some i) info c p v here is h = absurd h
interest_info text before after e (Some q) None info None p v here is h =
    let met = awaits_met Never 44 (46 ∷ []) p before after e info_mark here is h.1 in
    (after.here.now, h.0, met.1, awaits_next 46 [] after e before here (other_kind e.kind 44 46 is (eqb-false 44 46 refl)) met.0)
interest_info text before after e (Some q) None info (Some w) p v here is h = absurd h
interest_info text before after e (Some q) (Some i) info None p v here is h = absurd (awaits_still Never 46 [] h.0 before after e signature_mark here (other_kind e.kind 44 46 is (eqb-false 44 46 refl)) h.3).0
interest_info text before after e (Some q) (Some i) info (Some w) p v here is h = absurd (nothing_comes before after e here h.0)

pub interest_value : (text : List ℕ) (before after : FieldReader) (e : Element) (a : Option (List ℕ)) (b : Option PlainSignatureInfo) (c : Option (List ℕ)) (p v : List ℕ) → StandsHere before after e → e.kind ≡ 46
    → InterestMark text before a b c p v → InterestMark text after a b (Some e.value.now) p after.here.now
interest_value text before after e None None None p v here is h =
    absurd (needs_more e.kind 46 is refl (awaits_still IsFront 36 (44 ∷ 46 ∷ []) text before after e parameters_mark here (other_kind e.kind 46 36 is (eqb-false 46 36 refl)) h).0.1)
interest_value text before after e None None (Some w) p v here is h = absurd h
interest_value text before after e None (Some i) c p v here is h = absurd h
interest_value text before after e (Some q) None None p v here is h = absurd (awaits_still Never 44 (46 ∷ []) p before after e info_mark here (other_kind e.kind 46 44 is (eqb-false 46 44 refl)) h.1).0
interest_value text before after e (Some q) None (Some w) p v here is h = absurd h
interest_value text before after e (Some q) (Some i) None p v here is h =
    let met = awaits_met Never 46 [] h.0 before after e signature_mark here is h.3 in
    (met.0, (h.0, h.1, h.2, met.1))
interest_value text before after e (Some q) (Some i) (Some w) p v here is h = absurd (nothing_comes before after e here h.0)

-- If the ApplicationParameters were read, `p` is the input from the ApplicationParameters on, and
-- every statement `X` that follows from this fact holds. If the InterestSignatureValue was read,
-- `p` and `v` satisfy `IsSignedAt`.
pub interest_last : {A B C : Type 0} (f : A → List ℕ) (g : B → PlainSignatureInfo) (k : C → List ℕ) (text : List ℕ) (fields : FieldReader) (a : Option A) (b : Option B) (c : Option C) (p v : List ℕ)
    → InterestMark text fields (option_map f a) (option_map g b) (option_map k c) p v → (X : Type 0) → (from_first 36 text ≡ Some p → X) → OnSome a X × OnSome c (IsSignedAt text p v)
interest_last f g k text fields None None None p v h X there = (tt, tt)
interest_last f g k text fields None None (Some w) p v h X there = absurd h
interest_last f g k text fields None (Some i) c p v h X there = absurd h
interest_last f g k text fields (Some q) None None p v h X there = (there h.0, tt)
interest_last f g k text fields (Some q) None (Some w) p v h X there = absurd h
interest_last f g k text fields (Some q) (Some i) None p v h X there = (there h.1, tt)
interest_last f g k text fields (Some q) (Some i) (Some w) p v h X there = (there h.1.1, h.1)
