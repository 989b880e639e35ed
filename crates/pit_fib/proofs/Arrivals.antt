-- What the records are after an Interest arrives, and after an Interest is sent.
use Rattle.std.proofs.Common.{◌≡◌, ◌⊎◌, inl, inr, ℕ, ◌<◌, ◌≤◌, Bool, true, false, cond, refl, sym, ap, subst, ◌∙◌, arith, ltb, leb}
use Rattle.std.specs.Prelude.{Option, None, Some, IsSome, unwrap_or, ◌||◌}
use Rattle.std.specs.FinMap as map
use Rattle.std.specs.FinMap.{get, len, contains_key}
use Rattle.std.proofs.lemmas.Bool.{leb-true, leb-false}
use Rattle.std.proofs.lemmas.Bool.Decides.{nat_tests}
use Rattle.ndn_packets.specs.Key.{PlainKey}
use Rattle.name_trie.specs.NameTable.{NameTable}
use Rattle.pit_fib.specs.declared.prepared.Prepared.{Prepared}
use Rattle.pit_fib.specs.Faced.{Faced, has_place, placed, set_in, with_face_value}
use Rattle.pit_fib.specs.Kept.{Kept, Row, with_in_record, kept_at, new_in}
use Rattle.pit_fib.specs.Prepared.{CanSend, HasMemory, HasNoArrival, calls_of}
use Rattle.pit_fib.specs.Records.{InRecord}
use Rattle.pit_fib.proofs.KeptTables.{records_in}
use Rattle.pit_fib.proofs.Memory.{not_wide, wide}
use Rattle.pit_fib.proofs.Preparations.{memory_after, memory_arrives, memory_sends}

pub kept_or_new : (o : Option Kept) (room : ℕ) → (unwrap_or o (new_in room)).records ≡ records_in o
kept_or_new None room = refl
kept_or_new (Some s) room = refl

less_so : (n : ℕ) → n < 64 → ltb n 64 ≡ true
less_so n lt = grind (arith, nat_tests)

or_so : (a b : Bool) → (a ≡ true) ⊎ (b ≡ true) → (a || b) ≡ true
or_so true b h = refl
or_so false b (inl e) = absurd cc
or_so false b (inr e) = e

-- if the face has an in-record, or fewer than 64 faces have one, the arrival of an Interest sets
-- the face's in-record, and changes nothing else in the entry
pub asked_is : (face : ℕ) (in_record : InRecord) (s : Kept) → IsSome (get s.records.in_records face) ⊎ (len s.records.in_records < 64)
    → with_in_record face in_record s ≡ record { records = record { in_records = map.insert s.records.in_records face in_record; out_records = s.records.out_records }; is_wide = s.is_wide }
asked_is face in_record s room =
    let holds = or_so (contains_key s.records.in_records face) (ltb (len s.records.in_records) 64) (elim room [ (inl some) ↦ inl some | (inr less) ↦ inr (less_so _ less) ]) in
    ap (λ b. cond b (record { records = record { in_records = map.insert s.records.in_records face in_record; out_records = s.records.out_records }; is_wide = s.is_wide }) s) holds

-- ---- setting the value of one face

module _ {X : Type 0} (room face : ℕ) (x : X) (f : Faced X) where
  set_known : contains_key f.values face ≡ true → set_in room face x f ≡ with_face_value face x f
  set_known is = ap (λ b. cond b (with_face_value face x f) (cond (placed room f).0 (with_face_value face x (placed room f).1) f)) is

  set_new : contains_key f.values face ≡ false → len f.values < 64 → (new : Faced X) → placed room f ≡ (true, new) → set_in room face x f ≡ with_face_value face x new
  set_new is few new made =
      ap (λ b. cond b (with_face_value face x f) (cond (placed room f).0 (with_face_value face x (placed room f).1) f)) is
      ∙ ap (λ (p : Bool × Faced X). cond p.0 (with_face_value face x p.1) f) made

  made_there : len f.values < 64 → has_place f ≡ true → placed room f ≡ (true, f)
  made_there few place =
      (λ i. cond (not_wide _ few i) (false, f) (cond (place i) (true, f) (cond (leb 64 room) (true, record { values = f.values; is_wide = true }) (false, f))))

  made_wide : len f.values < 64 → has_place f ≡ false → 64 ≤ room → placed room f ≡ (true, record { values = f.values; is_wide = true })
  made_wide few place more =
      (λ i. cond (not_wide _ few i) (false, f) (cond (place i) (true, f) (cond (wide _ more i) (true, record { values = f.values; is_wide = true }) (false, f))))

  -- If the face is not a 65th face, and the map's own memory or the supplied memory suffices,
  -- setting the value of the face inserts the value. The map then has memory for 64 values if the
  -- map had this memory before, or if the map's own memory did not suffice.
  pub set_is : IsSome (get f.values face) ⊎ (len f.values < 64) → ((contains_key f.values face || has_place f) ≡ false → 64 ≤ room)
      → ((set_in room face x f).values ≡ map.insert f.values face x)
      × (((contains_key f.values face || has_place f) ≡ false) ⊎ (f.is_wide ≡ true) → (set_in room face x f).is_wide ≡ true)
  set_is bound more =
      elim (contains_key f.values face) as (λ b. contains_key f.values face ≡ b → ((b || has_place f) ≡ false → 64 ≤ room)
      → ((set_in room face x f).values ≡ map.insert f.values face x) × (((b || has_place f) ≡ false) ⊎ (f.is_wide ≡ true) → (set_in room face x f).is_wide ≡ true)) [
        | true ↦ λ is _. (ap (λ (g : Faced X). g.values) (set_known is), λ h. ap (λ (g : Faced X). g.is_wide) (set_known is) ∙ elim h [ (inl e) ↦ absurd (differ e) | (inr w) ↦ w ])
        | false ↦ λ is more.
            let few = fewer bound is in
            elim (has_place f) as (λ p. has_place f ≡ p → (p ≡ false → 64 ≤ room) → ((set_in room face x f).values ≡ map.insert f.values face x) × ((p ≡ false) ⊎ (f.is_wide ≡ true) → (set_in room face x f).is_wide ≡ true)) [
              | true ↦ λ place _.
                  let one = set_new is few f (made_there few place) in
                  (ap (λ (g : Faced X). g.values) one, λ h. ap (λ (g : Faced X). g.is_wide) one ∙ elim h [ (inl e) ↦ absurd (differ e) | (inr w) ↦ w ])
              | false ↦ λ place more.
                  let one = set_new is few (record { values = f.values; is_wide = true }) (made_wide few place (more refl)) in
                  (ap (λ (g : Faced X). g.values) one, λ h. ap (λ (g : Faced X). g.is_wide) one)
            ] refl more
      ] refl more
    where
      differ : true ≡ false → ⊥
      differ e = absurd cc

      fewer : IsSome (get f.values face) ⊎ (len f.values < 64) → contains_key f.values face ≡ false → len f.values < 64
      fewer (inl some) is = absurd (differ (sym some ∙ is))
      fewer (inr less) is = less

-- ---- the memory for the prepared calls after an arrival or a sending

wide_or_not : (n : ℕ) → (64 ≤ n) ⊎ (n < 64)
wide_or_not n = elim (leb 64 n) as (λ b. leb 64 n ≡ b → (64 ≤ n) ⊎ (n < 64)) [ true ↦ λ e. inl (leb-true 64 n e) | false ↦ λ e. inr (leb-false 64 n e) ] refl

-- after an Interest arrives, there is memory for the calls that are still prepared
pub memory_arrived : (old new : NameTable Row) (spare : ℕ) (key : PlainKey) (prepared after : Option Prepared) → HasMemory old spare prepared → HasNoArrival after
    → (((size : ℕ) → calls_of prepared ≡ Some (key, Some size) → ⊥) → calls_of after ≡ None) → HasMemory new spare after
memory_arrived old new spare key prepared after has left ended =
    memory_after new spare after left (λ k e. elim (wide_or_not spare) [
      | (inl room) ↦ inl room
      | (inr less) ↦ absurd (apart (sym (ended (λ size is. absurd (let room = (memory_arrives old spare size key prepared has is).0 in omega arith))) ∙ e))
    ])
  where
    apart : {k : PlainKey} → ◌≡◌ {A = Option (PlainKey × Option ℕ)} None (Some (k, None)) → ⊥
    apart e = absurd cc

some_not_none : {k : PlainKey} → ◌≡◌ {A = Option (PlainKey × Option ℕ)} None (Some (k, None)) → ⊥
some_not_none e = absurd cc

one_of : {k l : PlainKey} → ◌≡◌ {A = Option (PlainKey × Option ℕ)} (Some (k, None)) (Some (l, None)) → k ≡ l
one_of {k} e = ap (key_in k) e
  where
    key_in : PlainKey → Option (PlainKey × Option ℕ) → PlainKey
    key_in k None = k
    key_in k (Some c) = c.0

-- After an Interest is sent, there is memory for the calls that are still prepared. A precondition
-- is that the spare memory is unchanged if the entry's own memory sufficed. Another precondition is
-- that the entry has memory for 64 out-records after the call if it had this memory before the
-- call, or if its own memory did not suffice.
pub memory_sent : (old new : NameTable Row) (spare left : ℕ) (key : PlainKey) (prepared after : Option Prepared) (has_place : Bool) (was is : Kept) → HasMemory old spare prepared → HasNoArrival after
    → (calls_of after ≡ None) ⊎ ((calls_of prepared ≡ Some (key, None)) × (calls_of after ≡ Some (key, None)))
    → kept_at old.table key ≡ Some was → kept_at new.table key ≡ Some is → (has_place ≡ true → left ≡ spare) → ((has_place ≡ false) ⊎ (was.is_wide ≡ true) → is.is_wide ≡ true)
    → HasMemory new left after
memory_sent old new spare left key prepared after has_place was is has none either there here same wider =
    memory_after new left after none (λ k e. elim either [
      | (inl gone) ↦ absurd (some_not_none (sym gone ∙ e))
      | (inr both) ↦ subst (λ q. CanSend new.table q left) (one_of (sym both.1 ∙ e)) (sends (memory_sends old spare key None prepared has both.0))
    ])
  where
    wide_here : is.is_wide ≡ true → CanSend new.table key left
    wide_here w = inr (λ s e. ap (λ (u : Kept). u.is_wide) (one s is (sym e ∙ here)) ∙ w)
      where
        one : (a b : Kept) → Some a ≡ Some b → a ≡ b
        one a b e = cc

    sends : CanSend old.table key spare → CanSend new.table key left
    sends can =
        elim has_place as (λ b. has_place ≡ b → CanSend new.table key left) [
          | true ↦ λ t. elim can [ (inl room) ↦ inl (subst (λ n. 64 ≤ n) (sym (same t)) room) | (inr wide) ↦ wide_here (wider (inr (wide was there))) ]
          | false ↦ λ f. wide_here (wider (inl f))
        ] refl
