-- Reading the fields of a schema, in order, from a list of elements.
use Rattle.std.proofs.Common.{◌≡◌, ◌≢◌, ℕ, Bool, true, false, cond, eqb, List, [], ◌∷◌, ◌++◌, map, Option, Some, None, Result, Ok, Err, refl, sym, ap, subst, ◌∙◌, inl, inr}
use Rattle.std.specs.List.{AllByRecursion}
use Rattle.std.proofs.lemmas.Bool.{eqb-true, eqb-false}
use Rattle.ndn_tlv.specs.declared.fault.TlvFault.{TlvFault}
use Rattle.ndn_tlv.specs.Element.{Field}
use Rattle.ndn_tlv.specs.Reading.{◌>>=◌}
use Rattle.ndn_tlv.proofs.Numbers.{IsBytes}
use Rattle.ndn_packets.specs.declared.fault.PacketFault.{PacketFault}
use Rattle.ndn_packets.specs.declared.fault.PacketFault.TheVariants.{CriticalUnknown}
use Rattle.ndn_tlv.specs.Writing.{optional}
use Rattle.ndn_packets.specs.Fields.{Counts, Fields, needs_previous_field}
use Rattle.ndn_tlv.specs.Options.{on_option}
use Rattle.ndn_packets.specs.Reading.{schema_after, fields_from, read_fields}
use Rattle.ndn_packets.proofs.Steps.{bind_ok, good, err_is_not_ok, both_tests, read}

-- ---- whether a schema lists a type, and whether a field of this type may come next

abbrev pub Lacks : ℕ → List ℕ → Type 0
Lacks kind schema = AllByRecursion (λ k. k ≢ kind) schema

abbrev pub IsAfterNone : ℕ → List ℕ → Type 0
IsAfterNone kind schema = (later : List ℕ) → Counts kind later schema → ⊥

abbrev pub IsSchemaAfter : ℕ → List ℕ → Option (List ℕ) → Type 0
IsSchemaAfter kind schema None = IsAfterNone kind schema
IsSchemaAfter kind schema (Some later) = Counts kind later schema

in_nothing : (kind : ℕ) → IsAfterNone kind []
in_nothing kind later h = at_front h.0 h.1
  where
    at_front : (front : List ℕ) → [] ≡ front ++ kind ∷ later → ⊥
    at_front [] e = cc
    at_front (k ∷ front) e = cc

-- if `kind` is not `first`, and a field of type `kind` may come next by the schema
-- `first ∷ schema`, then this field may also come next by `schema`, and `kind` does not need the
-- previous field
past_first : (kind first : ℕ) (later schema : List ℕ) → first ≢ kind → Counts kind later (first ∷ schema) → Counts kind later schema × (needs_previous_field kind ≡ false)
past_first kind first later schema other h = at_front h.0 h.1 h.2 h.3
  where
    no_need : (b : Bool) → (b ≡ true → ⊥) → b ≡ false
    no_need true h = absurd (h refl)
    no_need false h = refl

    at_front : (front : List ℕ) → first ∷ schema ≡ front ++ kind ∷ later → Lacks kind front → (needs_previous_field kind ≡ true → front ≡ []) → Counts kind later schema × (needs_previous_field kind ≡ false)
    at_front [] is lacks near = absurd (other cc)
    at_front (k ∷ front) is lacks near =
        let far : needs_previous_field kind ≡ true → ⊥ = λ follows. (let none = near follows in cc) in
        ((front, (cc), lacks.1, λ follows. absurd (far follows)), no_need (needs_previous_field kind) far)

pub after_found : (kind : ℕ) (schema : List ℕ) → IsSchemaAfter kind schema (schema_after kind schema)
after_found kind [] = in_nothing kind
after_found kind (first ∷ schema) =
    elim (eqb first kind) as (λ b. eqb first kind ≡ b → IsSchemaAfter kind (first ∷ schema) (cond b (Some schema) (cond (needs_previous_field kind) None (schema_after kind schema)))) [
      | true ↦ λ is. ([], ap (λ (k : ℕ). k ∷ schema) (eqb-true first kind is), tt, λ follows. refl)
      | false ↦ λ differs.
          let other : first ≢ kind = eqb-false first kind differs in
          elim (needs_previous_field kind) as (λ b. needs_previous_field kind ≡ b → IsSchemaAfter kind (first ∷ schema) (cond b None (schema_after kind schema))) [
            | true ↦ λ follows later h. both_tests (needs_previous_field kind) (past_first kind first later schema other h).1 follows
            | false ↦ λ plain. following first other plain (schema_after kind schema) (after_found kind schema)
          ] refl
    ] refl
  where
    following : (first : ℕ) → first ≢ kind → needs_previous_field kind ≡ false → (r : Option (List ℕ)) → IsSchemaAfter kind schema r → IsSchemaAfter kind (first ∷ schema) r
    following first other plain None h = λ later before. h later (past_first kind first later schema other before).0
    following first other plain (Some later) h = (first ∷ h.0, ap (λ (ks : List ℕ). first ∷ ks) h.1, (other, h.2), λ follows. absurd (both_tests (needs_previous_field kind) plain follows))

pub after_again : (kind : ℕ) (schema later : List ℕ) → Counts kind later schema → schema_after kind schema ≡ Some later
after_again kind [] later h = absurd (in_nothing kind later h)
after_again kind (first ∷ schema) later h =
    elim (eqb first kind) as (λ b. eqb first kind ≡ b → cond b (Some schema) (cond (needs_previous_field kind) None (schema_after kind schema)) ≡ Some later) [
      | true ↦ λ is. ap (λ (ks : List ℕ). Some ks) (at_first (eqb-true first kind is) h.0 h.1 h.2)
      | false ↦ λ differs.
          let past = past_first kind first later schema (eqb-false first kind differs) h in
          not_refused (needs_previous_field kind) (schema_after kind schema) past.1 (after_again kind schema later past.0)
    ] refl
  where
    at_first : first ≡ kind → (front : List ℕ) → first ∷ schema ≡ front ++ kind ∷ later → Lacks kind front → schema ≡ later
    at_first same [] is lacks = cc
    at_first same (k ∷ front) is lacks = absurd (lacks.0 cc)

    not_refused : (b : Bool) (r : Option (List ℕ)) → b ≡ false → r ≡ Some later → cond b None r ≡ Some later
    not_refused true r e found = absurd cc
    not_refused false r e found = found

pub after_none : (kind : ℕ) (schema : List ℕ) → IsAfterNone kind schema → schema_after kind schema ≡ None
after_none kind schema none = found (schema_after kind schema) (after_found kind schema)
  where
    found : (r : Option (List ℕ)) → IsSchemaAfter kind schema r → r ≡ None
    found None h = refl
    found (Some later) h = absurd (none later h)

-- ---- the elements and the fields that were read without a fault

pub record FieldsRead {S : Type 0} (take : S → Field → Result S PacketFault) (ignores : ℕ → Bool) (schema : List ℕ) (elements : List (Result Field TlvFault)) (s t : S) : Type 0 where
  pub plain : List Field
  pub fields : List Field
  pub all : elements ≡ map read plain
  pub recognised : Fields ignores schema plain fields
  pub taken : read_fields take s (map good fields) ≡ Ok t

pub fields_found : {S : Type 0} (take : S → Field → Result S PacketFault) (ignores : ℕ → Bool) (schema : List ℕ) (elements : List (Result Field TlvFault)) (s t : S)
    → read_fields take s (fields_from ignores schema elements) ≡ Ok t → FieldsRead take ignores schema elements s t
fields_found take ignores schema [] s t e = record { plain = []; fields = []; all = refl; recognised = refl; taken = e }
fields_found take ignores schema (Err f ∷ elements) s t e = absurd (err_is_not_ok _ t e)
fields_found take ignores schema (Ok x ∷ elements) s t e =
    elim (schema_after x.0 schema) as (λ r. IsSchemaAfter x.0 schema r
    → read_fields take s (on_option (λ later. Ok x ∷ fields_from ignores later elements) (cond (ignores x.0) (fields_from ignores schema elements) (Err CriticalUnknown ∷ [])) r) ≡ Ok t
    → FieldsRead take ignores schema (Ok x ∷ elements) s t) [
      | Some later ↦ λ before e.
          let m = bind_ok (take s x) (λ u. read_fields take u (fields_from ignores later elements)) t e in
          let r = fields_found take ignores later elements m.0 t m.2 in
          record {
            plain = x ∷ r.plain;
            fields = x ∷ r.fields;
            all = ap (λ (es : List (Result Field TlvFault)). read x ∷ es) r.all;
            recognised = inl (later, r.fields, before, refl, r.recognised);
            taken = ap (λ (q : Result _ PacketFault). q >>= λ u. read_fields take u (map good r.fields)) m.1 ∙ r.taken;
          }
      | None ↦ λ none e.
          elim (ignores x.0) as (λ b. ignores x.0 ≡ b → read_fields take s (cond b (fields_from ignores schema elements) (Err CriticalUnknown ∷ [])) ≡ Ok t → FieldsRead take ignores schema (Ok x ∷ elements) s t) [
            | true ↦ λ ignored e.
                let r = fields_found take ignores schema elements s t e in
                record {
                  plain = x ∷ r.plain;
                  fields = r.fields;
                  all = ap (λ (es : List (Result Field TlvFault)). read x ∷ es) r.all;
                  recognised = inr (none, ignored, r.recognised);
                  taken = r.taken;
                }
            | false ↦ λ refused e. absurd (err_is_not_ok _ t e)
          ] refl e
    ] (after_found x.0 schema) e

pub fields_again : (ignores : ℕ → Bool) (schema : List ℕ) (plain fields : List Field) → Fields ignores schema plain fields → fields_from ignores schema (map read plain) ≡ map good fields
fields_again ignores schema [] fields h = ap (map good) (sym h)
fields_again ignores schema (e ∷ plain) fields (inl h) =
    rw (after_again e.0 schema h.0 h.2) (ap (λ (fs : List (Result Field PacketFault)). good e ∷ fs) (fields_again ignores h.0 plain h.1 h.4) ∙ ap (map good) (sym h.3))
fields_again ignores schema (e ∷ plain) fields (inr h) = rw (after_none e.0 schema h.0, h.1) (fields_again ignores schema plain fields h.2)

-- ---- lists that have one optional field for each type in a schema, in the order of the schema

abbrev pub InSchema : List ℕ → List Field → Type 0
InSchema [] fields = fields ≡ []
InSchema (kind ∷ schema) fields = (value : Option (List ℕ)) × (others : List Field) × (fields ≡ optional kind value ++ others) × InSchema schema others

none_in : (schema : List ℕ) → InSchema schema []
none_in [] = refl
none_in (kind ∷ schema) = (None, [], refl, none_in schema)

some_in : (front later : List ℕ) (f : Field) (others : List Field) → InSchema later others → InSchema (front ++ f.0 ∷ later) (f ∷ others)
some_in [] later f others h = (Some f.1, others, refl, h)
some_in (kind ∷ front) later f others h = (None, f ∷ others, refl, some_in front later f others h)

pub fields_in : (ignores : ℕ → Bool) (schema : List ℕ) (plain fields : List Field) → Fields ignores schema plain fields → InSchema schema fields
fields_in ignores schema [] fields h = subst (InSchema schema) (sym h) (none_in schema)
fields_in ignores schema (e ∷ plain) fields (inl h) =
    let inside = some_in h.2.0 h.0 e h.1 (fields_in ignores h.0 plain h.1 h.4) in
    subst (InSchema schema) (sym h.3) (subst (λ (ks : List ℕ). InSchema ks (e ∷ h.1)) (sym h.2.1) inside)
fields_in ignores schema (e ∷ plain) fields (inr h) = fields_in ignores schema plain fields h.2

-- reading an optional field in state `s` ends in state `t`
abbrev pub Took : {S : Type 0} → (S → Field → Result S PacketFault) → S → ℕ → Option (List ℕ) → S → Type 0
Took take s kind None t = t ≡ s
Took take s kind (Some value) t = take s (kind, value) ≡ Ok t

pub took_first : {S : Type 0} (take : S → Field → Result S PacketFault) (s t : S) (kind : ℕ) (value : Option (List ℕ)) (fields others : List Field) → fields ≡ optional kind value ++ others
    → read_fields take s (map good fields) ≡ Ok t → (mid : S) × Took take s kind value mid × (read_fields take mid (map good others) ≡ Ok t)
took_first take s t kind None fields others is e = (s, refl, subst (λ (fs : List Field). read_fields take s (map good fs) ≡ Ok t) is e)
took_first take s t kind (Some v) fields others is e =
    bind_ok (take s (kind, v)) (λ u. read_fields take u (map good others)) t (subst (λ (fs : List Field). read_fields take s (map good fs) ≡ Ok t) is e)

-- if reading an optional field in state `s` ends in state `mid`, then reading this field and
-- `others` in `s` has the same result as reading only `others` in `mid`
pub took_again : {S : Type 0} (take : S → Field → Result S PacketFault) (s mid : S) (kind : ℕ) (value : Option (List ℕ)) (others : List Field) → Took take s kind value mid
    → read_fields take s (map good (optional kind value ++ others)) ≡ read_fields take mid (map good others)
took_again take s mid kind None others took = ap (λ u. read_fields take u (map good others)) (sym took)
took_again take s mid kind (Some v) others took = ap (λ (r : Result _ PacketFault). r >>= λ u. read_fields take u (map good others)) took

-- ---- a property of all elements holds for all fields among the elements

pub fields_keep : (P : Field → Type 0) (ignores : ℕ → Bool) (schema : List ℕ) (plain fields : List Field) → Fields ignores schema plain fields → AllByRecursion P plain → AllByRecursion P fields
fields_keep P ignores schema [] fields h all = subst (AllByRecursion P) (sym h) tt
fields_keep P ignores schema (e ∷ plain) fields (inl h) all = subst (AllByRecursion P) (sym h.3) (all.0, fields_keep P ignores h.0 plain h.1 h.4 all.1)
fields_keep P ignores schema (e ∷ plain) fields (inr h) all = fields_keep P ignores schema plain fields h.2 all.1

-- ---- values that consist of octets

-- an optional TLV-VALUE consists of octets if it is present
abbrev pub MayBeBytes : Option (List ℕ) → Type 0
MayBeBytes None = Unit {0}
MayBeBytes (Some value) = IsBytes value

abbrev pub AreBytes : List Field → Type 0
AreBytes fields = AllByRecursion (λ f. IsBytes f.1) fields

pub bytes_first : (kind : ℕ) (value : Option (List ℕ)) (fields others : List Field) → fields ≡ optional kind value ++ others → AreBytes fields → MayBeBytes value × AreBytes others
bytes_first kind None fields others is fit = (tt, subst AreBytes is fit)
bytes_first kind (Some v) fields others is fit = subst AreBytes is fit
