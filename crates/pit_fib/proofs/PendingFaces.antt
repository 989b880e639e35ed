-- The faces with records in a pending Interest table.
use Rattle.std.proofs.Common.{◌≡◌, ◌⊎◌, inl, inr, ℕ, ◌<◌, Bool, true, false, cond, List, [], ◌∷◌, length, refl, sym, ap, subst, ◌∙◌, arith, eqb, ltb, suc}
use Rattle.std.specs.Prelude.{Option, Some, None, IsSome, is_some, option_and_then, ◌&&◌, ◌||◌}
use Rattle.std.specs.Option.{option_map}
use Rattle.std.specs.List.{AllByRecursion}
use lib.Dec.{T}
use Rattle.std.specs.declared.cmp.Ordering.TheVariants.{Less}
use Rattle.std.specs.Ordering.{nat_cmp, eq_by_cmp, is_eq}
use Rattle.std.specs.Cmp.{nat_cmp_total, tied_itself}
use Rattle.std.specs.FinMap.{FinMap, entries, entries_sorted, get, get-empty, get-entries, find, is_sorted, len, len-entries}
use Rattle.std.specs.FinMap.Entries.{below_all}
use Rattle.std.proofs.lemmas.Bool.{eqb-true}
use Rattle.std.proofs.lemmas.Bool.Decides.{nat_tests}
use Rattle.ndn_packets.specs.Answers.{answers}
use Rattle.ndn_packets.specs.Key.{PlainKey}
use Rattle.pit_fib.specs.FaceSet.{AtMost64, IsRising, has_face, with_face}
use Rattle.pit_fib.specs.Records.{InRecord, OutRecord, Records, Pending, no_records, is_alive, records_at}
use Rattle.pit_fib.specs.Cause.{Cause, Expires, Arrives, SentTo, Satisfied, NackCame, Withdrawn, Removed, Closed, changed, same_key, until_after, nacked_with, records_after, Follows}
use Rattle.pit_fib.specs.Past.{in_record_after, out_record_after}
use Rattle.pit_fib.specs.Pit.{HasRecord, HasRoomFor}
use Rattle.ndn_names.proofs.Rows.{first_of, second_of, is_less}
use Rattle.pit_fib.proofs.RisingFaces.{with_rises}
use Rattle.pit_fib.proofs.PendingPast.{get-changed, get-changed_asked}

-- the cause gives the face `f` a record
abbrev pub Adds : Cause → ℕ → Type 0
Adds (Expires now) f = ⊥
Adds (Arrives key face in_record) f = f ≡ face
Adds (SentTo key face nonce moment) f = f ≡ face
Adds (Satisfied name digest) f = ⊥
Adds (NackCame key face nonce reason) f = ⊥
Adds (Withdrawn key face) f = ⊥
Adds (Removed key) f = ⊥
Adds (Closed face) f = ⊥

never : {A : Type 0} → false ≡ true → A
never e = absurd cc

-- ---- each face with a record after a cause had one before the cause, or the cause gave it one
module _ {X : Type 0} (A : Type 0) (was : Option X) where
  gone : (b : Bool) → IsSome (cond b None was) → IsSome was ⊎ A
  gone true e = never e
  gone false e = inl e

  put_at : (b : Bool) (f face : ℕ) (x : X) → IsSome (cond (b && eqb f face) (Some x) was) → IsSome was ⊎ (f ≡ face)
  put_at false f face x e = inl e
  put_at true f face x e =
      elim (eqb f face) as (λ t. eqb f face ≡ t → IsSome (cond t (Some x) was) → IsSome was ⊎ (f ≡ face)) [
        | true ↦ λ t e. inr (eqb-true f face t)
        | false ↦ λ t e. inl e
      ] refl e

was_there : {X Y : Type 0} (change : X → Option Y) (was : Option X) → IsSome (option_and_then change was) → IsSome was
was_there change None e = never e
was_there change (Some x) e = refl

was_mapped : {X Y : Type 0} (change : X → Y) (b : Bool) (was : Option X) (other : Option Y) → (IsSome other → IsSome was) → IsSome (cond b (option_map change was) other) → IsSome was
was_mapped change true None other same e = never e
was_mapped change true (Some x) other same e = refl
was_mapped change false was other same e = same e

asks_before : (cause : Cause) (k : PlainKey) (f : ℕ) (was : Option InRecord) → IsSome (in_record_after cause k f was) → IsSome was ⊎ Adds cause f
asks_before (Expires now) k f was e = inl (was_there (until_after now) was e)
asks_before (Arrives key face in_record) k f was e = put_at ⊥ was (same_key k key) f face in_record e
asks_before (SentTo key face nonce moment) k f was e = inl e
asks_before (Satisfied name digest) k f was e = gone ⊥ was (answers name digest k.name k.can_be_prefix) e
asks_before (NackCame key face nonce reason) k f was e = inl e
asks_before (Withdrawn key face) k f was e = gone ⊥ was (same_key k key && eqb f face) e
asks_before (Removed key) k f was e = gone ⊥ was (same_key k key) e
asks_before (Closed face) k f was e = gone ⊥ was (eqb f face) e

sent_before : (cause : Cause) (k : PlainKey) (f : ℕ) (was : Option OutRecord) → IsSome (out_record_after cause k f was) → IsSome was ⊎ Adds cause f
sent_before (Expires now) k f was e = inl e
sent_before (Arrives key face in_record) k f was e = inl e
sent_before (SentTo key face nonce moment) k f was e = put_at ⊥ was (same_key k key) f face _ e
sent_before (Satisfied name digest) k f was e = gone ⊥ was (answers name digest k.name k.can_be_prefix) e
sent_before (NackCame key face nonce reason) k f was e = inl (was_mapped (nacked_with nonce reason) (same_key k key && eqb f face) was was (λ s. s) e)
sent_before (Withdrawn key face) k f was e = inl e
sent_before (Removed key) k f was e = gone ⊥ was (same_key k key) e
sent_before (Closed face) k f was e = gone ⊥ was (eqb f face) e

-- the face has an in-record or an out-record among these records
abbrev pub InRecords : Records → ℕ → Type 0
InRecords r f = IsSome (get r.in_records f) ⊎ IsSome (get r.out_records f)

in_changed : (cause : Cause) (k : PlainKey) (r : Records) (f : ℕ) → InRecords (changed cause k r) f → InRecords r f ⊎ Adds cause f
in_changed cause k r f (inl e) =
    elim (asks_before cause k f (get r.in_records f) (subst (λ (o : Option InRecord). IsSome o) (get-changed cause k f r) e)) [ (inl was) ↦ inl (inl was) | (inr adds) ↦ inr adds ]
in_changed cause k r f (inr e) =
    elim (sent_before cause k f (get r.out_records f) (subst (λ (o : Option OutRecord). IsSome o) (get-changed_asked cause k f r) e)) [ (inl was) ↦ inl (inr was) | (inr adds) ↦ inr adds ]

in_none : {A : Type 0} (f : ℕ) → InRecords no_records f → A
in_none f (inl e) = never (subst (λ (o : Option InRecord). IsSome o) (get-empty nat_cmp f) e)
in_none f (inr e) = never (subst (λ (o : Option OutRecord). IsSome o) (get-empty nat_cmp f) e)

in_settled : (r : Records) (f : ℕ) (b : Bool) → InRecords (cond b r no_records) f → InRecords r f
in_settled r f true e = e
in_settled r f false e = in_none f e

-- if a face has a record under a key after a cause, the face had a record under this key before the
-- cause, or the cause gave the face a record
pub in_after : (cause : Cause) (k : PlainKey) (r : Records) (f : ℕ) → InRecords (records_after cause k r) f → InRecords r f ⊎ Adds cause f
in_after cause k r f e = in_changed cause k r f (in_settled (changed cause k r) f (is_alive (changed cause k r)) e)

-- if a face has a record in the table after a cause, the face had a record before the cause, or the
-- cause gave the face a record
pub had_record : (cause : Cause) (old new : Pending) → Follows cause old new → (f : ℕ) → HasRecord new f → HasRecord old f ⊎ Adds cause f
had_record cause old new follows f (k, e) =
    let now : InRecords (records_after cause k (records_at old k)) f = subst (λ r. InRecords r f) (follows k) e in
    let before = in_changed cause k (records_at old k) f (in_settled (changed cause k (records_at old k)) f (is_alive (changed cause k (records_at old k))) now) in
    elim before [ (inl was) ↦ inl (k, was) | (inr adds) ↦ inr adds ]

-- the cause gives no face a record
abbrev pub GivesNone : Cause → Type 0
GivesNone cause = (f : ℕ) → Adds cause f → ⊥

-- If the cause gives no face a record (expiry, Data, a Nack, a withdrawal, a removal or a closing),
-- each face that has a record after the cause had a record before the cause.
pub had_records : (cause : Cause) (old new : Pending) → GivesNone cause → Follows cause old new → (f : ℕ) → HasRecord new f → HasRecord old f
had_records cause old new none follows f has =
    elim (had_record cause old new follows f has) [ (inl was) ↦ was | (inr adds) ↦ absurd (none f adds) ]

-- a face has no in-record after it was closed
closed_asks : (face : ℕ) (k : PlainKey) (was : Option InRecord) → IsSome (in_record_after (Closed face) k face was) → ⊥
closed_asks face k was e = never (subst (λ b. IsSome (cond b None was)) (same face) e)
  where
    same : (n : ℕ) → eqb n n ≡ true
    same n = grind (arith, nat_tests)

closed_sent : (face : ℕ) (k : PlainKey) (was : Option OutRecord) → IsSome (out_record_after (Closed face) k face was) → ⊥
closed_sent face k was e = never (subst (λ b. IsSome (cond b None was)) (same face) e)
  where
    same : (n : ℕ) → eqb n n ≡ true
    same n = grind (arith, nat_tests)

pub closed_has_none : (face : ℕ) (old new : Pending) → Follows (Closed face) old new → HasRecord new face → ⊥
closed_has_none face old new follows (k, e) =
    let r = records_at old k in
    let now : InRecords (records_after (Closed face) k r) face = subst (λ r. InRecords r face) (follows k) e in
    elim (in_settled (changed (Closed face) k r) face (is_alive (changed (Closed face) k r)) now) [
      | (inl some) ↦ closed_asks face k (get r.in_records face) (subst (λ (o : Option InRecord). IsSome o) (get-changed (Closed face) k face r) some)
      | (inr some) ↦ closed_sent face k (get r.out_records face) (subst (λ (o : Option OutRecord). IsSome o) (get-changed_asked (Closed face) k face r) some)
    ]

all_before : {P Q : ℕ → Type 0} → ((f : ℕ) → P f → Q f) → (faces : List ℕ) → AllByRecursion P faces → AllByRecursion Q faces
all_before sub [] h = tt
all_before sub (f ∷ faces) h = (sub f h.0, all_before sub faces h.1)

pub at_most : {P Q : ℕ → Type 0} → ((f : ℕ) → P f → Q f) → AtMost64 Q → AtMost64 P
at_most sub few faces rising all = few faces rising (all_before sub faces all)

-- if at most 64 faces have records before a cause that gives no face a record, at most 64 faces
-- have records after the cause
pub stays_few : (cause : Cause) (old new : Pending) → ((f : ℕ) → Adds cause f → ⊥) → Follows cause old new → AtMost64 (HasRecord old) → AtMost64 (HasRecord new)
stays_few cause old new none follows few =
    at_most (λ f has. elim (had_record cause old new follows f has) [ (inl was) ↦ was | (inr adds) ↦ absurd (none f adds) ]) few

-- Let a cause give a record to `face` only, or to no face. If `face` and the faces with records
-- before the cause are together at most 64 different faces, at most 64 faces have records after the
-- cause.
pub grows_few : (cause : Cause) (old new : Pending) (face : ℕ) → ((f : ℕ) → Adds cause f → f ≡ face) → Follows cause old new
    → AtMost64 (λ f. HasRecord old f ⊎ (f ≡ face)) → AtMost64 (HasRecord new)
grows_few cause old new face one follows room =
    at_most (λ f has. elim (had_record cause old new follows f has) [ (inl was) ↦ inl was | (inr adds) ↦ inr (one f adds) ]) room

pub none_few : (pending : Pending) → ((k : PlainKey) → records_at pending k ≡ no_records) → AtMost64 (HasRecord pending)
none_few pending none [] rising all = omega arith
none_few pending none (f ∷ faces) rising all = let has = all.0 in in_none f (subst (λ r. InRecords r f) (none has.0) has.1)

-- ---- the faces of one map

module _ {X : Type 0} where
  faces_of : List (ℕ × X) → List ℕ
  faces_of [] = []
  faces_of (e ∷ es) = e.0 ∷ faces_of es

  above : (f : ℕ) (es : List (ℕ × X)) → T (below_all nat_cmp f es) → AllByRecursion (λ m. f < m) (faces_of es)
  unfolding faces_of
  above f [] h = tt
  above f (e ∷ es) h = ((let lt = first_of _ _ h in less_is f e.0 (is_less (nat_cmp f e.0) lt)), above f es (second_of _ _ h))
    where
      less_is : (a b : ℕ) → nat_cmp a b ≡ Less → a < b
      less_is a b e = grind (arith, nat_tests)

  rises : (es : List (ℕ × X)) → T (is_sorted nat_cmp es) → IsRising (faces_of es)
  unfolding faces_of
  rises [] h = tt
  rises (e ∷ es) h = (above e.0 es (first_of _ _ h), rises es (second_of _ _ h))

  count : (es : List (ℕ × X)) → length (faces_of es) ≡ length es
  unfolding faces_of
  count [] = refl
  count (e ∷ es) = ap suc (count es)

  absent_face : (f : ℕ) (es : List (ℕ × X)) → find nat_cmp f es ≡ None → has_face f (faces_of es) ≡ false
  unfolding faces_of
  absent_face f [] e = refl
  absent_face f (x ∷ es) e =
      let parts = absent_parts (eq_by_cmp nat_cmp f x.0) (Some x.1) (find nat_cmp f es) (λ e. let no = e in cc) e in
      ap (λ b. b || has_face f (faces_of es)) (turned_tie x.0 f ∙ parts.0) ∙ absent_face f es parts.1
    where
      turned_tie : (a b : ℕ) → eqb a b ≡ eq_by_cmp nat_cmp b a
      turned_tie a b = grind (arith, nat_tests)

      absent_parts : (b : Bool) (o p : Option X) → (o ≡ None → ⊥) → cond b o p ≡ None → (b ≡ false) × (p ≡ None)
      absent_parts true o p some e = absurd (some e)
      absent_parts false o p some e = (refl, e)

length_with : (f : ℕ) (faces : List ℕ) → length (with_face f faces) ≡ suc (length faces)
length_with f [] = refl
length_with f (g ∷ faces) =
    elim (ltb f g) as (λ b. length (cond b (f ∷ g ∷ faces) (g ∷ with_face f faces)) ≡ suc (suc (length faces))) [ true ↦ refl | false ↦ ap suc (length_with f faces) ]

all_with : (P : ℕ → Type 0) (f : ℕ) (faces : List ℕ) → P f → AllByRecursion P faces → AllByRecursion P (with_face f faces)
all_with P f [] h all = (h, tt)
all_with P f (g ∷ faces) h all =
    elim (ltb f g) as (λ b. AllByRecursion P (cond b (f ∷ g ∷ faces) (g ∷ with_face f faces))) [ true ↦ (h, all) | false ↦ (all.0, all_with P f faces h all.1) ]

-- if `f` and the faces with the property `P` are together at most 64 different faces, a rising list
-- that does not contain `f`, and whose faces have the property `P`, has fewer than 64 faces
pub room_in_list : (P : ℕ → Type 0) (f : ℕ) (faces : List ℕ) → AtMost64 (λ g. P g ⊎ (g ≡ f)) → IsRising faces → AllByRecursion P faces → has_face f faces ≡ false → length faces < 64
room_in_list P f faces few rising all out =
    let more = few (with_face f faces) (with_rises f faces rising out) (all_with (λ g. P g ⊎ (g ≡ f)) f faces (inr refl) (all_before (λ g h. inl h) faces all)) in
    omega (arith, more, length_with f faces)

-- in a sorted list of rows, a lookup of the face of any row finds a value
each_found : {X : Type 0} (es : List (ℕ × X)) → T (is_sorted nat_cmp es) → AllByRecursion (λ f. IsSome (find nat_cmp f es)) (faces_of es)
unfolding faces_of
each_found [] h = tt
each_found {X} (e ∷ es) h = (
  ap (λ b. is_some (cond b (Some e.1) (find nat_cmp e.0 es))) (ap is_eq (tied_itself nat_cmp_total e.0)),
  all_before (λ f there. kept (eq_by_cmp nat_cmp f e.0) f there) (faces_of es) (each_found es (second_of _ _ h)),
)
  where
    kept : (b : Bool) (f : ℕ) → IsSome (find nat_cmp f es) → IsSome (cond b (Some e.1) (find nat_cmp f es))
    kept true f there = refl
    kept false f there = there

pub room_in : {X : Type 0} (m : FinMap nat_cmp X) (face : ℕ) → AtMost64 (λ f. IsSome (get m f) ⊎ (f ≡ face)) → IsSome (get m face) ⊎ (len m < 64)
room_in m face few = by_cases (get m face) refl
  where
    by_cases : (o : Option _) → get m face ≡ o → IsSome (get m face) ⊎ (len m < 64)
    by_cases (Some x) e = inl (ap is_some e)
    by_cases None e =
        let es = entries m in
        let sorted = entries_sorted m in
        let there : AllByRecursion (λ f. IsSome (get m f)) (faces_of es) = all_before (λ f there. subst (λ o. IsSome o) (sym (get-entries m f)) there) (faces_of es) (each_found es sorted) in
        let less = room_in_list (λ f. IsSome (get m f)) face (faces_of es) few (rises es sorted) there (absent_face face es (sym (get-entries m face) ∙ e)) in
        inr (omega (arith, less, count es, len-entries m))

-- ---- the room for a record of a face under one key, if the table has room for this face

module _ (old : Pending) (key : PlainKey) (r : Records) (face : ℕ) (here : records_at old key ≡ r) (room : HasRoomFor old face) where
  ask_there : (f : ℕ) → IsSome (get r.in_records f) ⊎ (f ≡ face) → HasRecord old f ⊎ (f ≡ face)
  ask_there f (inl some) = inl (key, inl (subst (λ (r : Records). IsSome (get r.in_records f)) (sym here) some))
  ask_there f (inr same) = inr same

  sent_there : (f : ℕ) → IsSome (get r.out_records f) ⊎ (f ≡ face) → HasRecord old f ⊎ (f ≡ face)
  sent_there f (inl some) = inl (key, inr (subst (λ (r : Records). IsSome (get r.out_records f)) (sym here) some))
  sent_there f (inr same) = inr same

  pub room_for_ask : IsSome (get r.in_records face) ⊎ (len r.in_records < 64)
  room_for_ask = room_in r.in_records face (at_most ask_there room)

  pub room_for_sent : IsSome (get r.out_records face) ⊎ (len r.out_records < 64)
  room_for_sent = room_in r.out_records face (at_most sent_there room)
