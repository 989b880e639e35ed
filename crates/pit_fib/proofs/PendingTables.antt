-- Keys, and causes that act on a key without records.
use Rattle.std.proofs.Common.{◌≡◌, ℕ, ◌-◌, true, false, cond, List, refl, sym, ap, subst, ◌∙◌, ltb}
use Rattle.std.specs.Prelude.{is_some}
use Rattle.std.specs.FinMap as map
use Rattle.std.specs.FinMap.{len-empty, len-remove, get-empty, empty, len}
use Rattle.std.specs.declared.cmp.Ordering.{Ordering}
use Rattle.std.specs.declared.cmp.Ordering.TheVariants.{Less, Equal, Greater}
use Rattle.std.specs.Ordering.{nat_cmp, is_eq}
use Rattle.std.specs.Cmp.{nat_cmp_total, tied_itself}
use Rattle.ndn_tlv.specs.Element.{Field}
use Rattle.ndn_packets.specs.Answers.{answers}
use Rattle.ndn_packets.specs.Key.{PlainKey, key_cmp}
use Rattle.pit_fib.specs.Records.{InRecord, InRecords, no_records, is_alive}
use Rattle.pit_fib.specs.Cause.{Expires, Satisfied, NackCame, Withdrawn, Removed, Closed, changed, same_key, until_after, with_reason}
use Rattle.name_trie.proofs.Revised.{revise-empty}
use Rattle.ndn_packets.specs.Key.{key_cmp-total, key_cmp-antisymmetric}

-- ---- keys that compare as equal

equal : (o : Ordering) → is_eq o ≡ true → o ≡ Equal
equal Less e = absurd cc
equal Equal e = refl
equal Greater e = absurd cc

-- two keys that compare as equal are the same key
pub one_key : (x y : PlainKey) → same_key x y ≡ true → x ≡ y
one_key x y e = key_cmp-antisymmetric x y (equal (key_cmp x y) e)

pub same_self : (k : PlainKey) → same_key k k ≡ true
same_self k = ap is_eq (tied_itself key_cmp-total k)

pub same_turned : (x y : PlainKey) → same_key x y ≡ same_key y x
same_turned x y =
    elim (same_key x y) as (λ b. same_key x y ≡ b → b ≡ same_key y x) [
      | true ↦ λ e. sym (subst (λ q. same_key y q ≡ true) (sym (one_key x y e)) (same_self y))
      | false ↦ λ e. elim (same_key y x) as (λ b. same_key y x ≡ b → false ≡ b) [
        | true ↦ λ f. sym e ∙ subst (λ q. same_key x q ≡ true) (sym (one_key y x f)) (same_self x)
        | false ↦ λ f. refl
      ] refl
    ] refl

-- ---- causes that give no in-record to a key without records

pub dead_none : is_alive no_records ≡ false
dead_none = ap (ltb 0) (len-empty nat_cmp InRecord)

dead_without : (f : ℕ) → ltb 0 (len (map.remove (empty {X = InRecord} {R = nat_cmp}) f)) ≡ false
dead_without f =
    ap (ltb 0) (len-remove nat_cmp_total (empty {X = InRecord}) f
    ∙ ap (λ o. cond (is_some o) (len (empty {X = InRecord} {R = nat_cmp}) - 1) (len (empty {X = InRecord} {R = nat_cmp}))) (get-empty nat_cmp f) ∙ len-empty nat_cmp InRecord)

pub dead_after_expiry : (now : ℕ) (k : PlainKey) → is_alive (changed (Expires now) k no_records) ≡ false
dead_after_expiry now k = ap (λ (in_records : InRecords). ltb 0 (len in_records)) (revise-empty nat_cmp (until_after now)) ∙ dead_none

pub dead_after_closing : (f : ℕ) (k : PlainKey) → is_alive (changed (Closed f) k no_records) ≡ false
dead_after_closing f k = dead_without f

pub dead_after_withdrawal : (key : PlainKey) (f : ℕ) (k : PlainKey) → is_alive (changed (Withdrawn key f) k no_records) ≡ false
dead_after_withdrawal key f k =
    elim (same_key k key) as (λ b. is_alive (cond b (record { in_records = map.remove empty f; out_records = empty }) no_records) ≡ false) [ true ↦ dead_without f | false ↦ dead_none ]

pub dead_after_removal : (key k : PlainKey) → is_alive (changed (Removed key) k no_records) ≡ false
dead_after_removal key k = elim (same_key k key) as (λ b. is_alive (cond b no_records no_records) ≡ false) [ true ↦ dead_none | false ↦ dead_none ]

pub dead_after_data : (name : List Field) (digest : List ℕ) (k : PlainKey) → is_alive (changed (Satisfied name digest) k no_records) ≡ false
dead_after_data name digest k =
    elim (answers name digest k.name k.can_be_prefix) as (λ b. is_alive (cond b no_records no_records) ≡ false) [ true ↦ dead_none | false ↦ dead_none ]

pub dead_after_nack : (key : PlainKey) (face : ℕ) (nonce : List ℕ) (reason : ℕ) (k : PlainKey) → is_alive (changed (NackCame key face nonce reason) k no_records) ≡ false
dead_after_nack key face nonce reason k =
    elim (same_key k key) as (λ b. is_alive (cond b (record { in_records = empty; out_records = with_reason face nonce reason empty (map.get {R = nat_cmp} empty face) }) no_records) ≡ false) [ true ↦ dead_none | false ↦ dead_none ]
