-- The records of one key after one cause, and tables that show the same records.
use Rattle.std.proofs.Common.{◌≡◌, ℕ, zero, suc, ◌+◌, Bool, true, false, cond, List, refl, ap, sym, ◌∙◌, arith, ltb}
use Rattle.std.specs.Prelude.{Option, Some, None, is_some, unwrap_or}
use Rattle.std.specs.FinMap as map
use Rattle.std.specs.FinMap.{FinMap, get, len-insert, get-empty, empty_of_len, len, same_map}
use Rattle.std.specs.Ordering.{nat_cmp}
use Rattle.std.specs.Cmp.{nat_cmp_total}
use Rattle.std.proofs.lemmas.Bool.Decides.{nat_tests}
use Rattle.ndn_packets.specs.Key.{PlainKey}
use Rattle.pit_fib.specs.Records.{InRecord, OutRecord, Records, Pending, HoldsTheLiving, no_records, is_alive, records_at}
use Rattle.pit_fib.specs.Cause.{Arrives, SentTo, NackCame, changed, same_key, sent_at, with_reason}
use Rattle.ndn_packets.specs.Key.{key_cmp-total, key_cmp-antisymmetric}
use Rattle.pit_fib.proofs.PendingTables.{same_self, dead_none}

pub alive_insert : (m : FinMap nat_cmp InRecord) (out_records : FinMap nat_cmp OutRecord) (f : ℕ) (a : InRecord) → is_alive (record { in_records = map.insert m f a; out_records = out_records }) ≡ true
alive_insert m out_records f a =
    ap (ltb 0) (len-insert nat_cmp_total m f a)
    ∙ elim (is_some (get m f)) as (λ b. is_some (get m f) ≡ b → ltb 0 (cond b (len m) (len m + 1)) ≡ true) [
      | true ↦ λ t. some_len (len m) refl t
      | false ↦ λ t. grind (arith, nat_tests)
    ] refl
  where
    some_len : (n : ℕ) → len m ≡ n → is_some (get m f) ≡ true → ltb 0 n ≡ true
    some_len (suc n) e t = grind (arith, nat_tests)
    some_len zero e t = absurd (differ (is_some (get m f)) t (ap (λ (x : FinMap nat_cmp InRecord). is_some (get x f)) (empty_of_len m e) ∙ ap is_some (get-empty nat_cmp f)))
      where
        differ : (b : Bool) → b ≡ true → b ≡ false → ⊥
        differ b p q = absurd cc

pub arrives_elsewhere : (key : PlainKey) (face : ℕ) (in_record : InRecord) (k : PlainKey) (s : Records) → same_key k key ≡ false → changed (Arrives key face in_record) k s ≡ s
arrives_elsewhere key face in_record k s t = ap (λ b. cond b (record { in_records = map.insert s.in_records face in_record; out_records = s.out_records }) s) t

pub arrives_here : (key : PlainKey) (face : ℕ) (in_record : InRecord) (s : Records) → changed (Arrives key face in_record) key s ≡ record { in_records = map.insert s.in_records face in_record; out_records = s.out_records }
arrives_here key face in_record s = ap (λ b. cond b (record { in_records = map.insert s.in_records face in_record; out_records = s.out_records }) s) (same_self key)

pub sent_elsewhere : (key : PlainKey) (face : ℕ) (nonce : List ℕ) (moment : ℕ) (k : PlainKey) (s : Records) → same_key k key ≡ false → changed (SentTo key face nonce moment) k s ≡ s
sent_elsewhere key face nonce moment k s t = ap (λ b. cond b (record { in_records = s.in_records; out_records = map.insert s.out_records face (sent_at nonce moment) }) s) t

pub sent_here : (key : PlainKey) (face : ℕ) (nonce : List ℕ) (moment : ℕ) (s : Records) → changed (SentTo key face nonce moment) key s ≡ record { in_records = s.in_records; out_records = map.insert s.out_records face (sent_at nonce moment) }
sent_here key face nonce moment s = ap (λ b. cond b (record { in_records = s.in_records; out_records = map.insert s.out_records face (sent_at nonce moment) }) s) (same_self key)

abbrev with_its_reason : ℕ → List ℕ → ℕ → Records → Records
with_its_reason face nonce reason s = record { in_records = s.in_records; out_records = with_reason face nonce reason s.out_records (get s.out_records face) }

pub nacked_elsewhere : (key : PlainKey) (face : ℕ) (nonce : List ℕ) (reason : ℕ) (k : PlainKey) (s : Records) → same_key k key ≡ false → changed (NackCame key face nonce reason) k s ≡ s
nacked_elsewhere key face nonce reason k s t = ap (λ b. cond b (with_its_reason face nonce reason s) s) t

-- ---- tables that show the same records

same_option : (a b : Option Records) → is_some a ≡ is_alive (unwrap_or a no_records) → is_some b ≡ is_alive (unwrap_or b no_records) → unwrap_or a no_records ≡ unwrap_or b no_records → a ≡ b
same_option None None p q e = refl
same_option (Some r) (Some s) p q e = ap Some e
same_option None (Some s) p q e = absurd (some_not_none (q ∙ ap is_alive (sym e) ∙ dead_none))
  where
    some_not_none : true ≡ false → ⊥
    some_not_none x = absurd cc
same_option (Some r) None p q e = absurd (some_not_none (p ∙ ap is_alive e ∙ dead_none))
  where
    some_not_none : true ≡ false → ⊥
    some_not_none x = absurd cc

pub same_table : (a b : Pending) → HoldsTheLiving a → HoldsTheLiving b → ((k : PlainKey) → records_at a k ≡ records_at b k) → a ≡ b
same_table a b p q same = same_map key_cmp-total key_cmp-antisymmetric a b (λ k. same_option (get a k) (get b k) (p k) (q k) (same k))
