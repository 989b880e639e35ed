-- The faces with a pending Interest that a Data answers. The name of such an Interest is the Data's
-- name, the Data's full name or, if the Interest has CanBePrefix, a proper prefix of the Data's
-- name.
use Rattle.std.proofs.Common.{◌≡◌, inl, inr, ℕ, Bool, true, false, List, [], ◌∷◌, ◌++◌, refl, sym, ap, subst, ◌∙◌}
use Rattle.std.specs.Prelude.{Option, None, Some, IsSome, IsTrue, is_some, ◌||◌, ◌↔◌}
use Rattle.std.specs.Ordering.{nat_cmp, eq_by_cmp}
use Rattle.std.specs.FinMap.{get, get-empty}
use Rattle.ndn_tlv.specs.Element.{Field}
use Rattle.ndn_names.specs.Key.{name_cmp-antisymmetric, name_cmp-total}
use Rattle.std.specs.Ordering.{is_eq}
use Rattle.std.specs.Cmp.{tied_itself}
use Rattle.ndn_names.specs.Order.{name_cmp}
use Rattle.ndn_packets.specs.Answers.{full_name}
use Rattle.ndn_packets.specs.Key.{PlainKey}
use Rattle.name_trie.specs.Taken.{taken as take_if, taken_along}
use Rattle.name_trie.proofs.Revised.{equal}
use Rattle.pit_fib.specs.FaceSet.{AtMost64, IsRising, has_face}
use Rattle.pit_fib.specs.Flags.{flags_of, key_at}
use Rattle.pit_fib.specs.Kept.{Kept, Rows, kept_at, kept_in, pending_of, with_answered}
use Rattle.pit_fib.specs.Pit.{HasRecord, WaitsFor}
use Rattle.pit_fib.specs.Records.{InRecord, Records, records_at}
use Rattle.pit_fib.proofs.Answered.{Gathers, along, answers_along, append_none, asked_along, asks_along, asks_if, asks_in, asks_row, gather_along, gather_taken, not_true, or_cases, own}
use Rattle.pit_fib.proofs.KeptTables.{records_in, records_kept}

name_self : (q : List Field) → eq_by_cmp name_cmp q q ≡ true
name_self q = ap is_eq (tied_itself name_cmp-total q)

asks_shown : (o : Option Kept) (f : ℕ) → asks_in o f ≡ is_some (get (records_in o).in_records f)
asks_shown None f = sym (ap (λ (a : Option InRecord). is_some a) (get-empty nat_cmp f))
asks_shown (Some s) f = refl

or_false : (a : Bool) → (a || false) ≡ a
or_false true = refl
or_false false = refl

module _ (name : List Field) (digest : List ℕ) (rows : Rows) where
  abbrev full : List Field
  full = full_name name digest

  out_records : (k : PlainKey) (f : ℕ) → IsTrue (asks_in (kept_at rows k) f) → IsSome (get (records_at (pending_of rows) k).in_records f)
  out_records k f t = ap (λ (r : Records). is_some (get r.in_records f)) (records_kept rows k) ∙ sym (asks_shown (kept_at rows k) f) ∙ t

  pub recorded_along : (f : ℕ) → IsTrue (asks_along (get rows) [] name f) → HasRecord (pending_of rows) f
  recorded_along f t = let found = asked_along (get rows) [] name f t in (key_at found.0 found.1, inl (out_records (key_at found.0 found.1) f found.3))

  pub recorded_full : (f : ℕ) → IsTrue (asks_row true (get rows full) f) → HasRecord (pending_of rows) f
  recorded_full f t = let found = asked_along (get rows) full [] f t in (key_at (full ++ found.0) found.1, inl (out_records (key_at (full ++ found.0) found.1) f found.3))

  whole : (t : List Field) (p : Bool) → IsTrue (along t [] p) → full ++ t ≡ full
  whole [] p h = append_none full
  whole (d ∷ t) p h = not_true h

  pub waits_if : (f : ℕ) → IsTrue (asks_along (get rows) [] name f || asks_row true (get rows full) f) → WaitsFor (pending_of rows) name digest f
  waits_if f t = elim (or_cases (asks_along (get rows) [] name f) _ t) [
    | (inl h) ↦
        let found = asked_along (get rows) [] name f h in
        let k = key_at found.0 found.1 in
        (k, answers_along found.0 name digest found.1.can_be_prefix ∙ ap (λ b. b || eq_by_cmp name_cmp found.0 full) found.2, out_records k f found.3)
    | (inr h) ↦
        let found = asked_along (get rows) full [] f h in
        let k = key_at (full ++ found.0) found.1 in
        let same : eq_by_cmp name_cmp (full ++ found.0) full ≡ true = ap (λ q. eq_by_cmp name_cmp q full) (whole found.0 found.1.can_be_prefix found.2) ∙ name_self full in
        (k, answers_along (full ++ found.0) name digest found.1.can_be_prefix ∙ ap (λ b. along (full ++ found.0) name found.1.can_be_prefix || b) same ∙ or_true (along (full ++ found.0) name found.1.can_be_prefix), out_records k f found.3)
  ]
    where
      or_true : (a : Bool) → (a || true) ≡ true
      or_true true = refl
      or_true false = refl

  pub if_waits : (f : ℕ) → WaitsFor (pending_of rows) name digest f → IsTrue (asks_along (get rows) [] name f || asks_row true (get rows full) f)
  if_waits f (k, answered, some) =
      let in_records : IsTrue (asks_in (kept_at rows k) f) = asks_shown (kept_at rows k) f ∙ ap (λ (r : Records). is_some (get r.in_records f)) (sym (records_kept rows k)) ∙ some in
      elim (or_cases (along k.name name k.can_be_prefix) _ (sym (answers_along k.name name digest k.can_be_prefix) ∙ answered)) [
        | (inl h) ↦ ap (λ b. b || asks_row true (get rows full) f) (asks_if (get rows) [] k.name name (flags_of k) f h in_records)
        | (inr h) ↦
            let one : k.name ≡ full = name_cmp-antisymmetric k.name full (equal (name_cmp k.name full) h) in
            right (asks_along (get rows) [] name f) (own (get rows full) (flags_of k) f (subst (λ q. IsTrue (asks_in (kept_in (get rows q) (flags_of k)) f)) one in_records))
      ]
    where
      right : (a : Bool) {b : Bool} → IsTrue b → IsTrue (a || b)
      right true t = refl
      right false t = t

  module _ (few : AtMost64 (HasRecord (pending_of rows))) (faces : List ℕ) (faces_are : faces ≡ taken_along (with_answered true) (with_answered false) [] (get rows) [] name) where
    gathered : Gathers (HasRecord (pending_of rows)) [] faces (asks_along (get rows) [] name)
    gathered =
        subst (λ l. Gathers (HasRecord (pending_of rows)) [] l (asks_along (get rows) [] name)) (sym faces_are)
        (gather_along (HasRecord (pending_of rows)) few (get rows) [] name [] tt (λ f t. not_true t) recorded_along)

    pub along_rising : IsRising faces
    along_rising = gathered.rising

    pub along_faces : get rows full ≡ None → (f : ℕ) → IsTrue (has_face f faces) ↔ WaitsFor (pending_of rows) name digest f
    along_faces none f =
        let nothing : asks_row true (get rows full) f ≡ false = ap (λ o. asks_row true o f) none in
        let all : has_face f faces ≡ (asks_along (get rows) [] name f || asks_row true (get rows full) f) =
        gathered.each f ∙ sym (ap (λ b. asks_along (get rows) [] name f || b) nothing ∙ or_false (asks_along (get rows) [] name f)) in
        (λ t. waits_if f (sym all ∙ t), λ h. all ∙ if_waits f h)

    module _ (more : List ℕ) (more_are : more ≡ take_if (with_answered true) faces (get rows full)) where
      both_gathered : Gathers (HasRecord (pending_of rows)) faces more (asks_row true (get rows full))
      both_gathered =
          subst (λ l. Gathers (HasRecord (pending_of rows)) faces l (asks_row true (get rows full)))
          (sym more_are)
          (gather_taken (HasRecord (pending_of rows)) few true (get rows full) faces gathered.rising gathered.within recorded_full)

      pub both_rising : IsRising more
      both_rising = both_gathered.rising

      pub both_faces : (f : ℕ) → IsTrue (has_face f more) ↔ WaitsFor (pending_of rows) name digest f
      both_faces f =
          let all : has_face f more ≡ (asks_along (get rows) [] name f || asks_row true (get rows full) f) =
          both_gathered.each f ∙ ap (λ b. b || asks_row true (get rows full) f) (gathered.each f) in
          (λ t. waits_if f (sym all ∙ t), λ h. all ∙ if_waits f h)
