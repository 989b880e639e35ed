-- The records of one face after a list of causes.
use Rattle.std.proofs.Common.{◌≡◌, ℕ, ◌≤◌, Bool, true, false, cond, List, [], ◌∷◌, length, refl, sym, ap, subst, ◌∙◌, arith, ltb, eqb}
use Rattle.std.specs.Prelude.{Option, Some, None, IsSome, IsTrue, is_some, option_and_then, ◌&&◌, ◌↔◌}
use Rattle.std.specs.Option.{option_map}
use Rattle.std.specs.Ordering.{nat_cmp, eq_by_cmp, is_eq}
use Rattle.std.specs.Cmp.{nat_cmp_total, tied_itself}
use Rattle.std.specs.FinMap as map
use Rattle.std.specs.FinMap.{FinMap, entries, find, get, get-entries, len-entries, get-insert, get-remove, get-empty, empty, empty_of_len, len, nat_cmp-IsAntisymmetric, same_map}
use Rattle.std.proofs.lemmas.Bool.{eqb-true}
use Rattle.std.proofs.lemmas.Bool.Decides.{nat_tests}
use Rattle.ndn_packets.specs.Answers.{answers}
use Rattle.ndn_packets.specs.Key.{PlainKey}
use Rattle.name_trie.specs.ByName.{revise}
use Rattle.pit_fib.specs.Records.{InRecord, OutRecord, InRecords, OutRecords, Records, no_records, is_alive}
use Rattle.pit_fib.specs.Cause.{Cause, Expires, Arrives, SentTo, Satisfied, NackCame, Withdrawn, Removed, Closed, changed, settled, same_key, until_after, sent_at, nacked_with, with_reason, records_after}
use Rattle.pit_fib.specs.Past.{records_after_all, in_record_of, in_record_after, out_record_of, out_record_after}
use Rattle.name_trie.proofs.Revised.{get-revise}
use Rattle.pit_fib.proofs.PendingTables.{dead_none, dead_after_expiry}

-- ---- the in-record of one face after one cause

differ : (b : Bool) → b ≡ true → b ≡ false → ⊥
differ b p q = absurd cc

dead_is_empty : {X : Type 0} (m : FinMap nat_cmp X) → ltb 0 (len m) ≡ false → m ≡ empty
dead_is_empty m e = empty_of_len m (grind (arith, nat_tests))

pub get-settled : (r : Records) (f : ℕ) → get (settled r).in_records f ≡ get r.in_records f
get-settled r f =
    elim (is_alive r) as (λ b. is_alive r ≡ b → get (cond b r no_records).in_records f ≡ get r.in_records f) [
      | true ↦ λ a. refl
      | false ↦ λ a. ap (λ m. get m f) (sym (dead_is_empty r.in_records a))
    ] refl

tie : (f face : ℕ) → eq_by_cmp nat_cmp f face ≡ eqb f face
tie f face = grind (arith, nat_tests)

pub get-changed : (cause : Cause) (k : PlainKey) (f : ℕ) (r : Records) → get (changed cause k r).in_records f ≡ in_record_after cause k f (get r.in_records f)
get-changed (Expires now) k f r = get-revise nat_cmp-IsAntisymmetric (until_after now) r.in_records f
get-changed (Arrives key face in_record) k f r =
    elim (same_key k key) as (λ b. get (cond b (record { in_records = map.insert r.in_records face in_record; out_records = r.out_records }) r).in_records f ≡ cond (b && eqb f face) (Some in_record) (get r.in_records f)) [
      | true ↦ get-insert nat_cmp_total r.in_records face in_record f ∙ ap (λ b. cond b (Some in_record) (get r.in_records f)) (tie f face)
      | false ↦ refl
    ]
get-changed (SentTo key face nonce moment) k f r =
    elim (same_key k key) as (λ b. get (cond b (record { in_records = r.in_records; out_records = map.insert r.out_records face (sent_at nonce moment) }) r).in_records f ≡ get r.in_records f) [ true ↦ refl | false ↦ refl ]
get-changed (Satisfied name digest) k f r =
    elim (answers name digest k.name k.can_be_prefix) as (λ b. get (cond b no_records r).in_records f ≡ cond b None (get r.in_records f)) [ true ↦ get-empty nat_cmp f | false ↦ refl ]
get-changed (NackCame key face nonce reason) k f r =
    elim (same_key k key) as (λ b. get (cond b (record { in_records = r.in_records; out_records = with_reason face nonce reason r.out_records (get r.out_records face) }) r).in_records f ≡ get r.in_records f) [ true ↦ refl | false ↦ refl ]
get-changed (Withdrawn key face) k f r =
    elim (same_key k key) as (λ b. get (cond b (record { in_records = map.remove r.in_records face; out_records = r.out_records }) r).in_records f ≡ cond (b && eqb f face) None (get r.in_records f)) [
      | true ↦ get-remove nat_cmp_total r.in_records face f ∙ ap (λ b. cond b None (get r.in_records f)) (tie f face)
      | false ↦ refl
    ]
get-changed (Removed key) k f r =
    elim (same_key k key) as (λ b. get (cond b no_records r).in_records f ≡ cond b None (get r.in_records f)) [ true ↦ get-empty nat_cmp f | false ↦ refl ]
get-changed (Closed face) k f r = get-remove nat_cmp_total r.in_records face f ∙ ap (λ b. cond b None (get r.in_records f)) (tie f face)

-- ---- the in-record of one face after all the causes in a list

pub asks_of_run : (run : List Cause) (k : PlainKey) (f : ℕ) → get (records_after_all run k).in_records f ≡ in_record_of run k f
asks_of_run [] k f = get-empty nat_cmp f
asks_of_run (cause ∷ before) k f =
    get-settled (changed cause k (records_after_all before k)) f ∙ get-changed cause k f (records_after_all before k) ∙ ap (in_record_after cause k f) (asks_of_run before k f)

-- if the map of in-records is not empty, some face has an in-record
has_some : (m : InRecords) → ltb 0 (len m) ≡ true → (face : ℕ) × IsSome (get m face)
has_some m alive = first_of (entries m) refl
  where
    nothing : {A : Type 0} → entries m ≡ [] → A
    nothing none = absurd (differ (ltb 0 (len m)) alive (ap (ltb 0) (len-entries m ∙ ap length none)))

    first_of : (es : List (ℕ × InRecord)) → entries m ≡ es → (face : ℕ) × IsSome (get m face)
    first_of [] none = nothing none
    first_of (e ∷ es) is = (
      e.0,
      ap is_some (get-entries m e.0 ∙ ap (find nat_cmp e.0) is
          ∙ ap (λ b. cond b (Some e.1) (find nat_cmp e.0 es)) (ap is_eq (tied_itself nat_cmp_total e.0))),
    )

some_has : (m : InRecords) (face : ℕ) → IsSome (get m face) → ltb 0 (len m) ≡ true
some_has m face some =
    elim (ltb 0 (len m)) as (λ b. ltb 0 (len m) ≡ b → b ≡ true) [
      | true ↦ λ t. refl
      | false ↦ λ t. absurd (differ (is_some (get m face)) some (ap (λ (m : InRecords). is_some (get m face)) (dead_is_empty m t) ∙ ap is_some (get-empty nat_cmp face)))
    ] refl

pub alive_of_run : (run : List Cause) (k : PlainKey) → IsTrue (is_alive (records_after_all run k)) ↔ ((face : ℕ) × IsSome (in_record_of run k face))
alive_of_run run k = (
  λ alive. let some = has_some (records_after_all run k).in_records alive in (some.0, subst (λ (o : Option InRecord). IsSome o) (asks_of_run run k some.0) some.1),
  λ (face, some). some_has (records_after_all run k).in_records face (subst (λ (o : Option InRecord). IsSome o) (sym (asks_of_run run k face)) some),
)

-- ---- the out-record of one face after causes

module _ (face : ℕ) (nonce : List ℕ) (reason : ℕ) (out_records : OutRecords) where
  reason_here : (o : Option OutRecord) → get out_records face ≡ o → get (with_reason face nonce reason out_records o) face ≡ option_map (nacked_with nonce reason) (get out_records face)
  reason_here None none = none ∙ sym (ap (option_map (nacked_with nonce reason)) none)
  reason_here (Some s) some =
      get-insert nat_cmp_total out_records face (nacked_with nonce reason s) face
      ∙ ap (λ b. cond b (Some (nacked_with nonce reason s)) (get out_records face)) (ap is_eq (tied_itself nat_cmp_total face))
      ∙ sym (ap (option_map (nacked_with nonce reason)) some)

  reason_there : (g : ℕ) (o : Option OutRecord) → eqb g face ≡ false → get (with_reason face nonce reason out_records o) g ≡ get out_records g
  reason_there g None e = refl
  reason_there g (Some s) e =
      get-insert nat_cmp_total out_records face (nacked_with nonce reason s) g ∙ ap (λ b. cond b (Some (nacked_with nonce reason s)) (get out_records g)) (tie g face ∙ e)

  get-with_reason : (g : ℕ) → get (with_reason face nonce reason out_records (get out_records face)) g ≡ cond (eqb g face) (option_map (nacked_with nonce reason) (get out_records g)) (get out_records g)
  get-with_reason g =
      elim (eqb g face) as (λ b. eqb g face ≡ b → get (with_reason face nonce reason out_records (get out_records face)) g ≡ cond b (option_map (nacked_with nonce reason) (get out_records g)) (get out_records g)) [
        | true ↦ λ e. subst (λ (q : ℕ). get (with_reason face nonce reason out_records (get out_records face)) q ≡ option_map (nacked_with nonce reason) (get out_records q)) (sym (eqb-true g face e)) (reason_here (get out_records face) refl)
        | false ↦ λ e. reason_there g (get out_records face) e
      ] refl

pub get-changed_asked : (cause : Cause) (k : PlainKey) (g : ℕ) (r : Records) → get (changed cause k r).out_records g ≡ out_record_after cause k g (get r.out_records g)
get-changed_asked (Expires now) k g r = refl
get-changed_asked (Arrives key face in_record) k g r =
    elim (same_key k key) as (λ b. get (cond b (record { in_records = map.insert r.in_records face in_record; out_records = r.out_records }) r).out_records g ≡ get r.out_records g) [ true ↦ refl | false ↦ refl ]
get-changed_asked (SentTo key face nonce moment) k g r =
    elim (same_key k key) as (λ b. get (cond b (record { in_records = r.in_records; out_records = map.insert r.out_records face (sent_at nonce moment) }) r).out_records g ≡ cond (b && eqb g face) (Some (sent_at nonce moment)) (get r.out_records g)) [
      | true ↦ get-insert nat_cmp_total r.out_records face (sent_at nonce moment) g ∙ ap (λ b. cond b (Some (sent_at nonce moment)) (get r.out_records g)) (tie g face)
      | false ↦ refl
    ]
get-changed_asked (Satisfied name digest) k g r =
    elim (answers name digest k.name k.can_be_prefix) as (λ b. get (cond b no_records r).out_records g ≡ cond b None (get r.out_records g)) [ true ↦ get-empty nat_cmp g | false ↦ refl ]
get-changed_asked (NackCame key face nonce reason) k g r =
    elim (same_key k key) as (λ b. get (cond b (record { in_records = r.in_records; out_records = with_reason face nonce reason r.out_records (get r.out_records face) }) r).out_records g ≡ cond (b && eqb g face) (option_map (nacked_with nonce reason) (get r.out_records g)) (get r.out_records g)) [
      | true ↦ get-with_reason face nonce reason r.out_records g
      | false ↦ refl
    ]
get-changed_asked (Withdrawn key face) k g r =
    elim (same_key k key) as (λ b. get (cond b (record { in_records = map.remove r.in_records face; out_records = r.out_records }) r).out_records g ≡ get r.out_records g) [ true ↦ refl | false ↦ refl ]
get-changed_asked (Removed key) k g r =
    elim (same_key k key) as (λ b. get (cond b no_records r).out_records g ≡ cond b None (get r.out_records g)) [ true ↦ get-empty nat_cmp g | false ↦ refl ]
get-changed_asked (Closed face) k g r = get-remove nat_cmp_total r.out_records face g ∙ ap (λ b. cond b None (get r.out_records g)) (tie g face)

alive-settled : (r : Records) → is_alive (settled r) ≡ is_alive r
alive-settled r =
    elim (is_alive r) as (λ b. is_alive r ≡ b → is_alive (cond b r no_records) ≡ b) [ true ↦ λ a. a | false ↦ λ a. dead_none ] refl

pub asked_of_run : (run : List Cause) (k : PlainKey) (g : ℕ) → get (records_after_all run k).out_records g ≡ out_record_of run k g
asked_of_run [] k g = get-empty nat_cmp g
asked_of_run (cause ∷ before) k g =
    elim (is_alive (changed cause k (records_after_all before k))) as (λ b. is_alive (changed cause k (records_after_all before k)) ≡ b
    → get (cond b (changed cause k (records_after_all before k)) no_records).out_records g ≡ cond b (out_record_after cause k g (out_record_of before k g)) None) [
      | true ↦ λ a. get-changed_asked cause k g (records_after_all before k) ∙ ap (out_record_after cause k g) (asked_of_run before k g)
      | false ↦ λ a. get-empty nat_cmp g
    ] refl
    ∙ ap (λ b. cond b (out_record_after cause k g (out_record_of before k g)) None) (sym (alive-settled (changed cause k (records_after_all before k))))

-- ---- the records after an expiry, with or without an earlier expiry directly before it

kept_again : (m n : ℕ) → m ≤ n → (o : Option InRecord) → option_and_then (until_after n) (option_and_then (until_after m) o) ≡ option_and_then (until_after n) o
kept_again m n le None = refl
kept_again m n le (Some a) =
    elim (ltb m a.deadline) as (λ b. ltb m a.deadline ≡ b → option_and_then (until_after n) (cond b (Some a) None) ≡ cond (ltb n a.deadline) (Some a) None) [
      | true ↦ λ t. refl
      | false ↦ λ t. ap (λ b. cond b (Some a) None) (sym (due_too t))
    ] refl
  where
    due_too : ltb m a.deadline ≡ false → ltb n a.deadline ≡ false
    due_too t = grind (arith, nat_tests)

revise_again : (m n : ℕ) → m ≤ n → (in_records : InRecords) → revise (until_after n) (revise (until_after m) in_records) ≡ revise (until_after n) in_records
revise_again m n le in_records = same_map nat_cmp_total nat_cmp-IsAntisymmetric _ _ (λ q.
    get-revise nat_cmp-IsAntisymmetric (until_after n) (revise (until_after m) in_records) q
    ∙ ap (option_and_then (until_after n)) (get-revise nat_cmp-IsAntisymmetric (until_after m) in_records q)
    ∙ kept_again m n le (get in_records q) ∙ sym (get-revise nat_cmp-IsAntisymmetric (until_after n) in_records q))

pub expires_again : (m n : ℕ) (k : PlainKey) (r : Records) → m ≤ n → records_after (Expires n) k (records_after (Expires m) k r) ≡ records_after (Expires n) k r
expires_again m n k r le =
    elim (is_alive (changed (Expires m) k r)) as (λ b. is_alive (changed (Expires m) k r) ≡ b → records_after (Expires n) k (cond b (changed (Expires m) k r) no_records) ≡ records_after (Expires n) k r) [
      | true ↦ λ a. ap (λ (in_records : InRecords). settled (record { in_records = in_records; out_records = r.out_records })) (revise_again m n le r.in_records)
      | false ↦ λ a.
          let none : revise (until_after m) r.in_records ≡ empty = dead_is_empty (revise (until_after m) r.in_records) a in
          let dead : is_alive (changed (Expires n) k r) ≡ false =
          ap (λ (in_records : InRecords). ltb 0 (len in_records)) (sym (revise_again m n le r.in_records) ∙ ap (revise (until_after n)) none) ∙ dead_after_expiry n k in
          ap (λ b. cond b (changed (Expires n) k no_records) no_records) (dead_after_expiry n k) ∙ ap (λ b. cond b (changed (Expires n) k r) no_records) (sym dead)
    ] refl
