-- What expires in the entry of a key.
use Rattle.std.proofs.Common.{◌≡◌, ℕ, ◌<◌, true, false, cond, not, refl, sym, ap, subst, ◌∙◌, arith, ltb, eqb}
use Rattle.std.specs.Prelude.{Option, None, Some}
use Rattle.std.specs.Option.{option_map}
use Rattle.std.specs.FinMap.{entries, len}
use Rattle.std.proofs.lemmas.Bool.{ltb-true}
use Rattle.std.proofs.lemmas.Bool.Decides.{nat_tests}
use Rattle.name_trie.specs.ByName.{revise}
use Rattle.name_trie.specs.Least.{each, least}
use Rattle.name_trie.proofs.Least.{idle_each, later_each}
use Rattle.pit_fib.specs.Records.{InRecord, InRecords}
use Rattle.pit_fib.specs.Cause.{until_after}
use Rattle.pit_fib.specs.Kept.{Kept, Row, changed_row, deadline, expired, living}
use Rattle.pit_fib.proofs.Rows.{changed_each}

idle_ask : (now : ℕ) (a : InRecord) → now < a.deadline → until_after now a ≡ Some a
idle_ask now a lt = ap (λ b. cond b (Some a) None) (sooner lt)
  where
    sooner : now < a.deadline → ltb now a.deadline ≡ true
    sooner lt = grind (arith, nat_tests)

later_ask : (now : ℕ) (a b : InRecord) → until_after now a ≡ Some b → now < b.deadline
later_ask now a b e =
    elim (ltb now a.deadline) as (λ t. ltb now a.deadline ≡ t → cond t (Some a) None ≡ Some b → now < b.deadline) [
      | true ↦ λ t is. subst (λ (x : InRecord). now < x.deadline) (same a b is) (ltb-true now a.deadline t)
      | false ↦ λ t is. absurd cc
    ] refl e
  where
    same : (x y : InRecord) → Some x ≡ Some y → x ≡ y
    same x y e = cc

with_asks : Kept → InRecords → Kept
with_asks s in_records = record { records = record { in_records = in_records; out_records = s.records.out_records }; is_wide = s.is_wide }

left_or_gone : {X Y : Type 0} (n : ℕ) (f : X → Y) (x : X) → cond (ltb 0 n) (Some (f x)) None ≡ option_map f (cond (eqb n 0) None (Some x))
left_or_gone n f x =
    ap (λ b. cond b (Some (f x)) None) (turned n)
    ∙ elim (eqb n 0) as (λ b. cond (not b) (Some (f x)) None ≡ option_map f (cond b None (Some x))) [ true ↦ refl | false ↦ refl ]
  where
    turned : (m : ℕ) → ltb 0 m ≡ not (eqb m 0)
    turned m = grind (arith, nat_tests)

-- an expiry leaves in the entry exactly the in-records that do not expire; if all in-records of the
-- entry expire, the entry is removed
living_each : (now : ℕ) (s : Kept) → living (expired now s) ≡ option_map (with_asks s) (each (until_after now) s.records.in_records)
unfolding with_asks
living_each now s = left_or_gone (len (revise (until_after now) s.records.in_records)) (with_asks s) (revise (until_after now) s.records.in_records)

idle_kept : (now : ℕ) (s : Kept) → now < deadline s → living (expired now s) ≡ Some s
unfolding with_asks
idle_kept now s lt =
    living_each now s ∙ ap (option_map (with_asks s)) (idle_each (λ (a : InRecord). a.deadline) (until_after now) now (idle_ask now) s.records.in_records lt)

later_kept : (now : ℕ) (s t : Kept) → living (expired now s) ≡ Some t → now < deadline t
unfolding with_asks
later_kept now s t e = at (each (until_after now) s.records.in_records) refl (sym (living_each now s) ∙ e)
  where
    same : (x y : Kept) → Some x ≡ Some y → x ≡ y
    same x y e = cc

    at : (o : Option InRecords) → each (until_after now) s.records.in_records ≡ o → option_map (with_asks s) o ≡ Some t → now < deadline t
    at None is e = absurd cc
    at (Some in_records) is e =
        subst (λ (u : Kept). now < deadline u) (same (with_asks s in_records) t e)
        (later_each (λ (a : InRecord). a.deadline) (until_after now) now (later_ask now) s.records.in_records in_records is)

pub idle_row : (now : ℕ) (row : Row) → now < least deadline (entries row) → changed_row (λ f s. living (expired now s)) row ≡ Some row
idle_row now row lt = changed_each (λ s. living (expired now s)) row ∙ idle_each deadline (λ s. living (expired now s)) now (idle_kept now) row lt

pub later_row : (now : ℕ) (row new : Row) → changed_row (λ f s. living (expired now s)) row ≡ Some new → now < least deadline (entries new)
later_row now row new e = later_each deadline (λ s. living (expired now s)) now (later_kept now) row new (sym (changed_each (λ s. living (expired now s)) row) ∙ e)
