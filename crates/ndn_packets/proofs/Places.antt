-- The positions of the fields of a schema among elements.
use Rattle.std.proofs.Common.{◌≡◌, ◌≢◌, ℕ, ◌⊎◌, Bool, true, false, cond, eqb, List, [], ◌∷◌, ◌++◌, Option, None, Some, refl, sym, ap, subst, ◌∙◌, append_assoc, inl, inr}
use Rattle.std.specs.List.{AllByRecursion}
use Rattle.std.proofs.lemmas.Bool.{eqb-false}
use Rattle.ndn_tlv.specs.Element.{Field}
use Rattle.ndn_tlv.specs.Writing.{optional, flag}
use Rattle.ndn_packets.specs.Fields.{Counts, Fields, needs_previous_field, interest_schema, data_schema}
use Rattle.ndn_packets.proofs.FieldLists.{Lacks}

-- ---- fields of other types, and the types before and after a given type in a schema

abbrev pub Others : ℕ → List Field → Type 0
Others kind fields = AllByRecursion (λ f. f.0 ≢ kind) fields

-- no field has a type in `schema`
abbrev pub Earlier : List ℕ → List Field → Type 0
Earlier schema fields = AllByRecursion (λ f. Lacks f.0 schema) fields

-- No type in `before` is `kind` or occurs in `later`. If `kind` needs the previous field, `before`
-- is empty.
pub record IsAround (before : List ℕ) (kind : ℕ) (later : List ℕ) : Type 0 where
  pub apart : AllByRecursion (λ k. Lacks k (kind ∷ later)) before
  pub near : needs_previous_field kind ≡ true → before ≡ []

not_same : {A : Type 0} {x y : A} → x ≢ y → y ≢ x
not_same other e = other (sym e)

lacks_kind : (kind : ℕ) (later before : List ℕ) → AllByRecursion (λ k. Lacks k (kind ∷ later)) before → Lacks kind before
lacks_kind kind later [] h = tt
lacks_kind kind later (k ∷ before) h = (not_same h.0.0, lacks_kind kind later before h.1)

following_all : {A : Type 0} (P : A → Type 0) (front back : List A) → AllByRecursion P (front ++ back) → AllByRecursion P back
following_all P [] back h = h
following_all P (x ∷ front) back h = following_all P front back h.1

not_nothing : (front later : List ℕ) (kind : ℕ) → front ++ kind ∷ later ≡ [] → ⊥
not_nothing [] later kind e = cc
not_nothing (k ∷ front) later kind e = cc

around_counts : (before later : List ℕ) (kind : ℕ) → IsAround before kind later → Counts kind later (before ++ kind ∷ later)
around_counts before later kind h = (before, refl, lacks_kind kind later before h.apart, h.near)

-- `StandsBefore`: the type `k` comes before the type `kind` in a schema. `StandsAfter`: the type
-- `k` comes after the type `kind` in a schema.
abbrev StandsBefore : List ℕ → ℕ → List ℕ → List ℕ → ℕ → List ℕ → Type 0
StandsBefore before kind later front k after = (between : List ℕ) × (before ≡ front ++ k ∷ between) × (after ≡ between ++ kind ∷ later)

abbrev StandsAfter : List ℕ → List ℕ → ℕ → List ℕ → Type 0
StandsAfter later front k after = (between : List ℕ) × (later ≡ between ++ k ∷ after)

stands : (before later front after : List ℕ) (kind k : ℕ) → before ++ kind ∷ later ≡ front ++ k ∷ after
    → StandsBefore before kind later front k after ⊎ (((kind ≡ k) × (later ≡ after)) ⊎ (StandsAfter later front k after × ((front ≡ [] → ⊥) × (Lacks k front → kind ≢ k))))
stands [] later [] after kind k e = inr (inl (cc, cc))
stands [] later (f ∷ front) after kind k e =
    let first : kind ≡ f = cc in
    let none : f ∷ front ≡ [] → ⊥ = λ is. cc in
    inr (inr ((front, (cc)), (none, λ lacks same. lacks.0 (sym first ∙ same))))
stands (b ∷ before) later [] after kind k e =
    let first : b ≡ k = cc in
    let rest : after ≡ before ++ kind ∷ later = cc in
    inl (before, (λ i. first i ∷ before), rest)
stands (b ∷ before) later (f ∷ front) after kind k e =
    let first : b ≡ f = cc in
    let rest : before ++ kind ∷ later ≡ front ++ k ∷ after = cc in
    elim (stands before later front after kind k rest) [
      | inl h ↦ inl (h.0, (λ i. first i ∷ h.1 i), h.2)
      | inr (inl h) ↦ inr (inl h)
      | inr (inr h) ↦
          let none : f ∷ front ≡ [] → ⊥ = λ is. cc in
          inr (inr ((h.0.0, h.0.1), (none, λ lacks. h.1.1 lacks.1)))
    ]

-- a type `k` in `before` is neither `kind` nor in `later`, and `IsAround` also holds for the types
-- between `k` and `kind`
before_is : (before later front between : List ℕ) (kind k : ℕ) → IsAround before kind later → before ≡ front ++ k ∷ between → Lacks k (kind ∷ later) × IsAround between kind later
before_is before later front between kind k around is =
    let apart = following_all (λ j. Lacks j (kind ∷ later)) front (k ∷ between) (subst (AllByRecursion (λ j. Lacks j (kind ∷ later))) is around.apart) in
    (apart.0, record { apart = apart.1; near = λ follows. absurd (not_nothing front between k (sym is ∙ around.near follows)) })

-- ---- the first element of a type, if all later types in the schema need the previous field

abbrev pub AllNeedPrevious : List ℕ → Type 0
AllNeedPrevious kinds = AllByRecursion (λ k. needs_previous_field k ≡ true) kinds

-- some element has type `kind`, and the first such element is the field of this type
pub record Met (ignores : ℕ → Bool) (kind : ℕ) (later : List ℕ) (elements fields : List Field) : Type 0 where
  pub front : List Field
  pub value : List ℕ
  pub back : List Field
  pub early : List Field
  pub late : List Field
  pub elements_are : elements ≡ front ++ (kind, value) ∷ back
  pub none : Others kind front
  pub fields_are : fields ≡ early ++ (kind, value) ∷ late
  pub earlier : Earlier (kind ∷ later) early
  pub following : Fields ignores later back late

-- no element has type `kind`, and no field has this type or a later type of the schema
abbrev pub Missed : ℕ → List ℕ → List Field → List Field → Type 0
Missed kind later elements fields = Others kind elements × Earlier (kind ∷ later) fields

met_field : (ignores : ℕ → Bool) (kind : ℕ) (later : List ℕ) (e : Field) (elements fields others : List Field) → e.0 ≢ kind → Lacks e.0 (kind ∷ later) → fields ≡ e ∷ others
    → Met ignores kind later elements others ⊎ Missed kind later elements others → Met ignores kind later (e ∷ elements) fields ⊎ Missed kind later (e ∷ elements) fields
met_field ignores kind later e elements fields others other apart is (inl m) = inl (record {
  front = e ∷ m.front;
  value = m.value;
  back = m.back;
  early = e ∷ m.early;
  late = m.late;
  elements_are = ap (λ (es : List Field). e ∷ es) m.elements_are;
  none = (other, m.none);
  fields_are = is ∙ ap (λ (fs : List Field). e ∷ fs) m.fields_are;
  earlier = (apart, m.earlier);
  following = m.following;
})
met_field ignores kind later e elements fields others other apart is (inr m) = inr ((other, m.0), subst (Earlier (kind ∷ later)) (sym is) (apart, m.1))

met_other : (ignores : ℕ → Bool) (kind : ℕ) (later : List ℕ) (e : Field) (elements fields : List Field) → e.0 ≢ kind
    → Met ignores kind later elements fields ⊎ Missed kind later elements fields → Met ignores kind later (e ∷ elements) fields ⊎ Missed kind later (e ∷ elements) fields
met_other ignores kind later e elements fields other (inl m) = inl (record {
  front = e ∷ m.front;
  value = m.value;
  back = m.back;
  early = m.early;
  late = m.late;
  elements_are = ap (λ (es : List Field). e ∷ es) m.elements_are;
  none = (other, m.none);
  fields_are = m.fields_are;
  earlier = m.earlier;
  following = m.following;
})
met_other ignores kind later e elements fields other (inr m) = inr ((other, m.0), m.1)

met_here : (ignores : ℕ → Bool) (kind : ℕ) (later after : List ℕ) (e : Field) (elements fields others : List Field) → kind ≡ e.0 → later ≡ after → fields ≡ e ∷ others → Fields ignores after elements others
    → Met ignores kind later (e ∷ elements) fields
met_here ignores kind later after e elements fields others same is fields_are rest = record {
  front = [];
  value = e.1;
  back = elements;
  early = [];
  late = others;
  elements_are = λ i. (sym same i, e.1) ∷ elements;
  none = tt;
  fields_are = fields_are ∙ (λ i. (sym same i, e.1) ∷ others);
  earlier = tt;
  following = subst (λ (ks : List ℕ). Fields ignores ks elements others) (sym is) rest;
}

pub meet : (ignores : ℕ → Bool) (before later : List ℕ) (kind : ℕ) (elements fields : List Field) → IsAround before kind later → AllNeedPrevious later → Fields ignores (before ++ kind ∷ later) elements fields
    → Met ignores kind later elements fields ⊎ Missed kind later elements fields
meet ignores before later kind [] fields around all_need_previous h = inr (tt, subst (Earlier (kind ∷ later)) (sym h) tt)
meet ignores before later kind (e ∷ elements) fields around all_need_previous (inl h) =
    elim (stands before later h.2.0 h.0 kind e.0 h.2.1) [
      | inl s ↦
          let b = before_is before later h.2.0 s.0 kind e.0 around s.1 in
          met_field ignores kind later e elements fields h.1 (not_same b.0.0) b.0 h.3
          (meet ignores s.0 later kind elements h.1 b.1 all_need_previous (subst (λ (ks : List ℕ). Fields ignores ks elements h.1) s.2 h.4))
      | inr (inl s) ↦ inl (met_here ignores kind later h.0 e elements fields h.1 s.0 s.1 h.3 h.4)
      | inr (inr s) ↦
          let follows = (following_all (λ k. needs_previous_field k ≡ true) s.0.0 (e.0 ∷ h.0) (subst AllNeedPrevious s.0.1 all_need_previous)).0 in
          absurd (s.1.0 (h.2.3 follows))
    ]
meet ignores before later kind (e ∷ elements) fields around all_need_previous (inr h) =
    let other : e.0 ≢ kind = λ is. h.0 later (subst (λ k. Counts k later (before ++ kind ∷ later)) (sym is) (around_counts before later kind around)) in
    met_other ignores kind later e elements fields other (meet ignores before later kind elements fields around all_need_previous h.2)

-- ---- the position of a field among the elements

cons_is : (x y : Field) (xs ys : List Field) → x ∷ xs ≡ y ∷ ys → (x ≡ y) × (xs ≡ ys)
cons_is x y xs ys e = (cc, cc)

-- the first element of type `kind` is the field of this type, and changing the value of this
-- element changes only this field
pub record StandsAt (ignores : ℕ → Bool) (schema : List ℕ) (kind : ℕ) (value : List ℕ) (elements early late : List Field) : Type 0 where
  pub front : List Field
  pub back : List Field
  pub elements_are : elements ≡ front ++ (kind, value) ∷ back
  pub none : Others kind front
  pub before : Fields ignores schema front early
  pub again : (other : List ℕ) → Fields ignores schema (front ++ (kind, other) ∷ back) (early ++ (kind, other) ∷ late)

field_at : (ignores : ℕ → Bool) (before later : List ℕ) (kind : ℕ) (value : List ℕ) (elements fields early late : List Field) → IsAround before kind later → Earlier (kind ∷ later) early
    → fields ≡ early ++ (kind, value) ∷ late → Fields ignores (before ++ kind ∷ later) elements fields → StandsAt ignores (before ++ kind ∷ later) kind value elements early late
field_at ignores before later kind value [] fields early late around earlier is h = absurd (no_field early (sym is ∙ h))
  where
    no_field : (fs : List Field) → fs ++ (kind, value) ∷ late ≡ [] → ⊥
    no_field [] e = cc
    no_field (f ∷ fs) e = cc
field_at ignores before later kind value (e ∷ elements) fields [] late around earlier is (inl h) =
    let here : e ≡ (kind, value) = (cons_is e (kind, value) h.1 late (sym h.3 ∙ is)).0 in
    let others : h.1 ≡ late = (cons_is e (kind, value) h.1 late (sym h.3 ∙ is)).1 in
    let same : kind ≡ e.0 = ap (λ (f : Field). f.0) (sym here) in
    elim (stands before later h.2.0 h.0 kind e.0 h.2.1) [
      | inl s ↦ absurd ((before_is before later h.2.0 s.0 kind e.0 around s.1).0.0 same)
      | inr (inl s) ↦ record {
        front = [];
        back = elements;
        elements_are = λ i. here i ∷ elements;
        none = tt;
        before = refl;
        again = λ other. inl (later, late, around_counts before later kind around, refl, subst (λ (ks : List ℕ). Fields ignores ks elements late) (sym s.1) (subst (Fields ignores h.0 elements) others h.4));
      }
      | inr (inr s) ↦ absurd (s.1.1 h.2.2 same)
    ]
field_at ignores before later kind value (e ∷ elements) fields (f ∷ early) late around earlier is (inl h) =
    let here : f ≡ e = (cons_is f e (early ++ (kind, value) ∷ late) h.1 (sym is ∙ h.3)).0 in
    let others : h.1 ≡ early ++ (kind, value) ∷ late = sym (cons_is f e (early ++ (kind, value) ∷ late) h.1 (sym is ∙ h.3)).1 in
    let apart = subst (λ (g : Field). Lacks g.0 (kind ∷ later)) here earlier.0 in
    elim (stands before later h.2.0 h.0 kind e.0 h.2.1) [
      | inl s ↦
          let b = before_is before later h.2.0 s.0 kind e.0 around s.1 in
          let r = field_at ignores s.0 later kind value elements h.1 early late b.1 earlier.1 others (subst (λ (ks : List ℕ). Fields ignores ks elements h.1) s.2 h.4) in
          record {
            front = e ∷ r.front;
            back = r.back;
            elements_are = ap (λ (es : List Field). e ∷ es) r.elements_are;
            none = (not_same apart.0, r.none);
            before = inl (h.0, early, h.2, ap (λ (g : Field). g ∷ early) here, subst (λ (ks : List ℕ). Fields ignores ks r.front early) (sym s.2) r.before);
            again = λ other. inl (
              h.0,
              early ++ (kind, other) ∷ late,
              h.2,
              ap (λ (g : Field). g ∷ (early ++ (kind, other) ∷ late)) here,
              subst (λ (ks : List ℕ). Fields ignores ks (r.front ++ (kind, other) ∷ r.back) (early ++ (kind, other) ∷ late)) (sym s.2) (r.again other),
            );
          }
      | inr (inl s) ↦ absurd (apart.0 s.0)
      | inr (inr s) ↦ absurd ((following_all (λ k. k ≢ e.0) s.0.0 (e.0 ∷ h.0) (subst (Lacks e.0) s.0.1 apart.1)).0 refl)
    ]
field_at ignores before later kind value (e ∷ elements) fields early late around earlier is (inr h) =
    let other : e.0 ≢ kind = λ same. h.0 later (subst (λ k. Counts k later (before ++ kind ∷ later)) (sym same) (around_counts before later kind around)) in
    let r = field_at ignores before later kind value elements fields early late around earlier is h.2 in
    record {
      front = e ∷ r.front;
      back = r.back;
      elements_are = ap (λ (es : List Field). e ∷ es) r.elements_are;
      none = (other, r.none);
      before = inr (h.0, h.1, r.before);
      again = λ w. inr (h.0, h.1, r.again w);
    }

-- ---- whether a schema lists a given type

lacks : ℕ → List ℕ → Bool
lacks kind [] = true
lacks kind (k ∷ schema) = cond (eqb k kind) false (lacks kind schema)

all_lack : List ℕ → List ℕ → Bool
all_lack [] schema = true
all_lack (k ∷ kinds) schema = cond (lacks k schema) (all_lack kinds schema) false

guard : (b c : Bool) → cond b c false ≡ true → (b ≡ true) × (c ≡ true)
guard true c e = (refl, e)
guard false c e = absurd cc

unless : (b c : Bool) → cond b false c ≡ true → (b ≡ false) × (c ≡ true)
unless true c e = absurd cc
unless false c e = (refl, e)

lacks-true : (kind : ℕ) (schema : List ℕ) → lacks kind schema ≡ true → Lacks kind schema
unfolding lacks
lacks-true kind [] e = tt
lacks-true kind (k ∷ schema) e =
    let g = unless (eqb k kind) (lacks kind schema) e in
    (eqb-false k kind g.0, lacks-true kind schema g.1)

all_lack-true : (kinds schema : List ℕ) → all_lack kinds schema ≡ true → AllByRecursion (λ k. Lacks k schema) kinds
unfolding all_lack
all_lack-true [] schema e = tt
all_lack-true (k ∷ kinds) schema e =
    let g = guard (lacks k schema) (all_lack kinds schema) e in
    (lacks-true k schema g.0, all_lack-true kinds schema g.1)

-- ---- whether some field has a given type

abbrev pub Has : ℕ → List Field → Type 0
Has kind [] = ⊥
Has kind (f ∷ fields) = (f.0 ≡ kind) ⊎ Has kind fields

pub has_following : (kind : ℕ) (front back : List Field) → Has kind back → Has kind (front ++ back)
has_following kind [] back h = h
has_following kind (f ∷ front) back h = inr (has_following kind front back h)

-- if `front ++ back` has a field of type `kind`, but `front` has none, then `back` has a field of
-- type `kind`
pub has_back : (kind : ℕ) (front back : List Field) → Others kind front → Has kind (front ++ back) → Has kind back
has_back kind [] back others h = h
has_back kind (f ∷ front) back others (inl h) = absurd (others.0 h)
has_back kind (f ∷ front) back others (inr h) = has_back kind front back others.1 h

pub others_lack : (kind : ℕ) (fields : List Field) → Others kind fields → Has kind fields → ⊥
others_lack kind [] others h = h
others_lack kind (f ∷ fields) others (inl h) = others.0 h
others_lack kind (f ∷ fields) others (inr h) = others_lack kind fields others.1 h

pub earlier_others : (before later : List ℕ) (kind : ℕ) (fields : List Field) → Earlier (before ++ kind ∷ later) fields → Others kind fields
earlier_others before later kind [] h = tt
earlier_others before later kind (f ∷ fields) h = (not_same (following_all (λ k. k ≢ f.0) before (kind ∷ later) h.0).0, earlier_others before later kind fields h.1)

-- ---- the fields of an Interest

abbrev pub front_fields : Bool → Bool → Option (List ℕ) → List ℕ → Option (List ℕ) → List Field
front_fields prefix fresh hint nonce lifetime = flag 33 prefix ++ (flag 18 fresh ++ (optional 30 hint ++ ((10, nonce) ∷ optional 12 lifetime)))

abbrev pub back_fields : Option (List ℕ) → Option (List ℕ) → Option (List ℕ) → List Field
back_fields parameters info value = optional 36 parameters ++ (optional 44 info ++ optional 46 value)

pub fields_are : (prefix fresh : Bool) (hint : Option (List ℕ)) (nonce : List ℕ) (lifetime : Option (List ℕ)) (later : List Field)
    → flag 33 prefix ++ (flag 18 fresh ++ (optional 30 hint ++ ((10, nonce) ∷ (optional 12 lifetime ++ later)))) ≡ front_fields prefix fresh hint nonce lifetime ++ later
fields_are prefix fresh hint nonce lifetime later = simp append_assoc

pub all_both : (P : Field → Type 0) (xs ys : List Field) → AllByRecursion P xs → AllByRecursion P ys → AllByRecursion P (xs ++ ys)
all_both P [] ys h g = g
all_both P (x ∷ xs) ys h g = (h.0, all_both P xs ys h.1 g)

earlier_flag : (schema : List ℕ) (kind : ℕ) (b : Bool) → Lacks kind schema → Earlier schema (flag kind b)
earlier_flag schema kind true h = (h, tt)
earlier_flag schema kind false h = tt

pub earlier_optional : (schema : List ℕ) (kind : ℕ) (value : Option (List ℕ)) → Lacks kind schema → Earlier schema (optional kind value)
earlier_optional schema kind None h = tt
earlier_optional schema kind (Some v) h = (h, tt)

pub other_optional : (kind k : ℕ) (value : Option (List ℕ)) → kind ≢ k → Others k (optional kind value)
other_optional kind k None other = tt
other_optional kind k (Some v) other = (other, tt)

pub earlier_front : (schema : List ℕ) (prefix fresh : Bool) (hint : Option (List ℕ)) (nonce : List ℕ) (lifetime : Option (List ℕ)) → AllByRecursion (λ k. Lacks k schema) (33 ∷ 18 ∷ 30 ∷ 10 ∷ 12 ∷ [])
    → Earlier schema (front_fields prefix fresh hint nonce lifetime)
earlier_front schema prefix fresh hint nonce lifetime h =
    let P : Field → Type 0 = λ f. Lacks f.0 schema in
    all_both P (flag 33 prefix) _ (earlier_flag schema 33 prefix h.0)
    (all_both P (flag 18 fresh) _ (earlier_flag schema 18 fresh h.1.0)
    (all_both P (optional 30 hint) _ (earlier_optional schema 30 hint h.1.1.0) (h.1.1.1.0, earlier_optional schema 12 lifetime h.1.1.1.1.0)))

-- in the schema of an Interest, no type before the HopLimit occurs again from the HopLimit on
pub hop_apart : AllByRecursion (λ k. Lacks k (34 ∷ 36 ∷ 44 ∷ 46 ∷ [])) (33 ∷ 18 ∷ 30 ∷ 10 ∷ 12 ∷ [])
unfolding lacks all_lack
hop_apart = all_lack-true (33 ∷ 18 ∷ 30 ∷ 10 ∷ 12 ∷ []) (34 ∷ 36 ∷ 44 ∷ 46 ∷ []) refl

no_need : (b : Bool) (before : List ℕ) → b ≡ false → b ≡ true → before ≡ []
no_need b before e g = absurd cc

around_hop : IsAround (33 ∷ 18 ∷ 30 ∷ 10 ∷ 12 ∷ []) 34 (36 ∷ 44 ∷ 46 ∷ [])
around_hop = record { apart = hop_apart; near = no_need (needs_previous_field 34) _ refl }

around_parameters : IsAround (33 ∷ 18 ∷ 30 ∷ 10 ∷ 12 ∷ 34 ∷ []) 36 (44 ∷ 46 ∷ [])
unfolding lacks all_lack
around_parameters = record { apart = all_lack-true (33 ∷ 18 ∷ 30 ∷ 10 ∷ 12 ∷ 34 ∷ []) (36 ∷ 44 ∷ 46 ∷ []) refl; near = no_need (needs_previous_field 36) _ refl }

first_around : (kind : ℕ) (later : List ℕ) → IsAround [] kind later
first_around kind later = record { apart = tt; near = λ _. refl }

pub meet_parameters : (ignores : ℕ → Bool) (elements fields : List Field) → Fields ignores interest_schema elements fields → Met ignores 36 (44 ∷ 46 ∷ []) elements fields ⊎ Missed 36 (44 ∷ 46 ∷ []) elements fields
meet_parameters ignores elements fields h = meet ignores (33 ∷ 18 ∷ 30 ∷ 10 ∷ 12 ∷ 34 ∷ []) (44 ∷ 46 ∷ []) 36 elements fields around_parameters (refl, (refl, tt)) h

pub meet_info : (ignores : ℕ → Bool) (elements fields : List Field) → Fields ignores (44 ∷ 46 ∷ []) elements fields → Met ignores 44 (46 ∷ []) elements fields ⊎ Missed 44 (46 ∷ []) elements fields
meet_info ignores elements fields h = meet ignores [] (46 ∷ []) 44 elements fields (first_around 44 (46 ∷ [])) (refl, tt) h

pub meet_signature : (ignores : ℕ → Bool) (elements fields : List Field) → Fields ignores (46 ∷ []) elements fields → Met ignores 46 [] elements fields ⊎ Missed 46 [] elements fields
meet_signature ignores elements fields h = meet ignores [] [] 46 elements fields (first_around 46 []) tt h

-- the HopLimit is the first element of its type, and no ApplicationParameters come before it
pub hop_at : (ignores : ℕ → Bool) (value : List ℕ) (elements early late : List Field) → Earlier (34 ∷ 36 ∷ 44 ∷ 46 ∷ []) early → Fields ignores interest_schema elements (early ++ (34, value) ∷ late)
    → (s : StandsAt ignores interest_schema 34 value elements early late) × Others 36 s.front
hop_at ignores value elements early late earlier h =
    let s = field_at ignores (33 ∷ 18 ∷ 30 ∷ 10 ∷ 12 ∷ []) (36 ∷ 44 ∷ 46 ∷ []) 34 value elements (early ++ (34, value) ∷ late) early late around_hop earlier refl h in
    elim (meet_parameters ignores s.front early s.before) [
      | inl m ↦ absurd ((following_all (λ (f : Field). Lacks f.0 (34 ∷ 36 ∷ 44 ∷ 46 ∷ [])) m.early ((36, m.value) ∷ m.late) (subst (Earlier (34 ∷ 36 ∷ 44 ∷ 46 ∷ [])) m.fields_are earlier)).0.1.0 refl)
      | inr m ↦ (s, m.0)
    ]

-- ---- the fields of a Data

around_value : IsAround (20 ∷ 21 ∷ 22 ∷ []) 23 []
unfolding lacks all_lack
around_value = record { apart = all_lack-true (20 ∷ 21 ∷ 22 ∷ []) (23 ∷ []) refl; near = no_need (needs_previous_field 23) _ refl }

pub meet_value : (ignores : ℕ → Bool) (elements fields : List Field) → Fields ignores data_schema elements fields → Met ignores 23 [] elements fields ⊎ Missed 23 [] elements fields
meet_value ignores elements fields h = meet ignores (20 ∷ 21 ∷ 22 ∷ []) [] 23 elements fields around_value tt h
