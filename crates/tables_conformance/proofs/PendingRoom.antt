-- If a table has records only of faces below 64, at most 64 faces have records. Therefore the table
-- has room for a record of any face below 64.
use Rattle.std.proofs.Common.{◌≡◌, ◌⊎◌, inl, inr, ℕ, suc, ◌+◌, ◌<◌, ◌≤◌, zero, Bool, true, false, List, [], ◌∷◌, length, refl, sym, ap, subst, ◌∙◌, arith, ltb, Bor}
use Rattle.std.specs.Prelude.{Option, Some, None, Result, Ok, Err, unwrap_or, IsSome, is_some, OnOk, OnErr}
use Rattle.std.specs.Option.{option_map}
use Rattle.std.specs.List.{AllByRecursion}
use Rattle.std.specs.Ordering.{nat_cmp}
use Rattle.std.specs.FinMap as map
use Rattle.std.specs.FinMap.{FinMap, get, len, empty, empty_of_len, get-empty}
use Rattle.std.proofs.lemmas.Bool.Decides.{nat_tests}
use Rattle.ndn_packets.specs.Key.{PlainKey, key_cmp}
use Rattle.pit_fib.specs.FaceSet.{IsRising}
use Rattle.pit_fib.specs.Records.{InRecord, Records, Pending, is_alive, no_records, records_at}
use Rattle.pit_fib.specs.Cause.{Cause, Follows}
use Rattle.pit_fib.specs.Pit.{HasRecord, HasRoomFor}
use Rattle.pit_fib.proofs.PendingFaces.{Adds, had_record}

-- the table has records only of faces below 64
abbrev pub AreBelow : Pending → Type 0
AreBelow pending = (face : ℕ) → HasRecord pending face → face < 64

pub below_after : (cause : Cause) (old new : Pending) → ((face : ℕ) → Adds cause face → face < 64) → Follows cause old new → AreBelow old → AreBelow new
below_after cause old new adds follows below face has =
    elim (had_record cause old new follows face has) [ (inl had) ↦ below face had | (inr added) ↦ adds face added ]

pub below_after_either : {X Y : Type 0} (answer : Result X Y) (cause : Cause) (old new : Pending) → ((face : ℕ) → Adds cause face → face < 64)
    → OnOk answer (Follows cause old new) → OnErr answer (new ≡ old) → AreBelow old → AreBelow new
below_after_either (Ok x) cause old new adds ok err below = below_after cause old new adds ok below
below_after_either (Err y) cause old new adds ok err below = subst AreBelow (sym err) below

spread : (m : ℕ) (faces : List ℕ) → IsRising faces → AllByRecursion (λ f. m ≤ f) faces → AllByRecursion (λ f. f < 64) faces → m ≤ 64 → length faces + m ≤ 64
spread m [] rising low high le = omega arith
spread m (f ∷ faces) rising low high le =
    let rest = spread (suc f) faces rising.1 (after faces rising.0) high.1 (omega (arith, high.0)) in
    omega (arith, rest, low.0)
  where
    after : (l : List ℕ) → AllByRecursion (λ g. f < g) l → AllByRecursion (λ g. suc f ≤ g) l
    after [] h = tt
    after (g ∷ l) h = ((let lt = h.0 in omega arith), after l h.1)

pub room_below : (old : Pending) (face : ℕ) → AreBelow old → face < 64 → HasRoomFor old face
room_below old face below less faces rising all = omega (arith, spread 0 faces rising (from_0 faces) (each faces all) (omega arith))
  where
    from_0 : (l : List ℕ) → AllByRecursion (λ f. 0 ≤ f) l
    from_0 [] = tt
    from_0 (f ∷ l) = (omega arith, from_0 l)

    one : (f : ℕ) → HasRecord old f ⊎ (f ≡ face) → f < 64
    one f (inl has) = below f has
    one f (inr same) = omega (arith, same, less)

    each : (l : List ℕ) → AllByRecursion (λ f. HasRecord old f ⊎ (f ≡ face)) l → AllByRecursion (λ f. f < 64) l
    each [] h = tt
    each (f ∷ l) h = (one f h.0, each l h.1)

differ : (b : Bool) → b ≡ true → b ≡ false → ⊥
differ b p q = absurd cc

in_none : (face : ℕ) → IsSome (get no_records.in_records face) ⊎ IsSome (get no_records.out_records face) → ⊥
in_none face (inl e) = differ (is_some (get no_records.in_records face)) e (ap is_some (get-empty nat_cmp face))
in_none face (inr e) = differ (is_some (get no_records.out_records face)) e (ap is_some (get-empty nat_cmp face))

empty_has_none : (face : ℕ) → HasRecord map.empty face → ⊥
empty_has_none face has = in_none face (subst (λ (r : Records). IsSome (get r.in_records face) ⊎ IsSome (get r.out_records face)) (ap (λ (o : Option Records). unwrap_or o no_records) (get-empty key_cmp has.0)) has.1)

-- all records of an empty table are of faces below 64, since an empty table has no records
pub none_below : (pending : Pending) → pending ≡ map.empty → AreBelow pending
none_below pending e face has = absurd (empty_has_none face (subst (λ p. HasRecord p face) e has))

pub asks_is_alive : (r : Records) (face : ℕ) → IsSome (get r.in_records face) → is_alive r ≡ true
asks_is_alive r face some = by_len (len r.in_records) (λ e. empty_of_len r.in_records e)
  where
    by_len : (n : ℕ) → (n ≡ 0 → r.in_records ≡ empty) → ltb 0 n ≡ true
    by_len (suc n) h = grind (arith, nat_tests)
    by_len zero h = absurd (differ (is_some (get r.in_records face)) some (ap (λ (m : FinMap nat_cmp InRecord). is_some (get m face)) (h refl) ∙ ap is_some (get-empty nat_cmp face)))

pub interest_asks : (shown : Option (Bor (List ℕ))) (ask : Option InRecord) → option_map (λ o. o.now) shown ≡ option_map (λ a. a.interest) ask → is_some shown ≡ true → IsSome ask
interest_asks (Some o) (Some a) e some = refl
interest_asks (Some o) None e some = absurd (apart e)
  where
    apart : {x : List ℕ} → Some x ≡ None → ⊥
    apart e = absurd cc
interest_asks None ask e some = absurd (differ false some refl)
