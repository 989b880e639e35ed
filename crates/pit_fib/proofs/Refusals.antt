-- Why a table refuses a value for a name.
use Rattle.std.proofs.Common.{◌≡◌, ◌⊎◌, inl, inr, ℕ, ◌<◌, ◌≤◌, Bool, true, false, cond, length, List, refl, sym, ap, ◌∙◌, leb}
use Rattle.std.specs.Prelude.{Option, None, Some, IsSome, is_some, nat_lt, nat_le, if◌then◌else◌}
use Rattle.std.proofs.lemmas.Bool.{leb-false, ltb-false, le-ltb, le-leb, lt-leb}
use Rattle.std.specs.FinMap.{get, len, contains_key}
use Rattle.ndn_tlv.specs.Element.{Field}
use Rattle.pit_fib.specs.declared.fault.TableFault.{TableFault}
use Rattle.pit_fib.specs.declared.fault.TableFault.TheVariants.{TooDeep, TableFull}
use Rattle.name_trie.specs.ByName.{ByName}
use Rattle.pit_fib.specs.Refusal.{refusal}

module _ {X : Type 0} (table : ByName X) (name : List Field) (shallow : length name ≤ 32) where
  told : (known full : Bool) → contains_key table name ≡ known → leb 4096 (len table) ≡ full
      → refusal table name ≡ cond known None (cond full (Some TableFull) None)
  told known full is_known is_full =
      ap (λ b. cond b (Some TooDeep) (cond (contains_key table name) None (cond (leb 4096 (len table)) (Some TableFull) None))) (le-ltb 32 (length name) shallow)
      ∙ ap (λ b. cond b None (cond (leb 4096 (len table)) (Some TableFull) None)) is_known
      ∙ ap (λ b. cond known None (cond b (Some TableFull) None)) is_full

  pub known_is_taken : contains_key table name ≡ true → None ≡ refusal table name
  known_is_taken known = sym (told true (leb 4096 (len table)) known refl)

  pub full_takes_none : contains_key table name ≡ false → 4096 ≤ len table → Some TableFull ≡ refusal table name
  full_takes_none new full = sym (told false true new (le-leb 4096 (len table) full))

  either : (known : Bool) (o : Option TableFault) → cond known o o ≡ o
  either true o = refl
  either false o = refl

  pub room_takes_any : len table < 4096 → None ≡ refusal table name
  room_takes_any room = sym (told (contains_key table name) false refl (lt-leb 4096 (len table) room) ∙ either (contains_key table name) None)

room_of : {X : Type 0} (o : Option X) (n : ℕ) → (if is_some o then None else (if nat_le 4096 n then Some TableFull else None)) ≡ None → IsSome o ⊎ (n < 4096)
room_of (Some x) n f = inl refl
room_of None n f = inr (elim (nat_le 4096 n) as (λ b. nat_le 4096 n ≡ b → (if b then Some TableFull else None) ≡ None → n < 4096) [ true ↦ λ t g. absurd cc | false ↦ λ t g. leb-false 4096 n t ] refl f)

-- if a name is not refused, then the name has a value already, or the table has fewer than 4,096
-- names
pub room_if_taken : {X : Type 0} (table : ByName X) (name : List Field) → refusal table name ≡ None → IsSome (get table name) ⊎ (len table < 4096)
room_if_taken table name none =
    elim (nat_lt 32 (length name)) as (λ b. (if b then Some TooDeep else (if contains_key table name then None else (if nat_le 4096 (len table) then Some TableFull else None))) ≡ None → IsSome (get table name) ⊎ (len table < 4096)) [
      | true ↦ λ e. absurd cc
      | false ↦ λ e. room_of (get table name) (len table) e
    ] none

-- a name that is not refused has at most 32 components
pub shallow_if_taken : {X : Type 0} (table : ByName X) (name : List Field) → refusal table name ≡ None → length name ≤ 32
shallow_if_taken table name none =
    elim (nat_lt 32 (length name)) as (λ b. nat_lt 32 (length name) ≡ b → (if b then Some TooDeep else (if contains_key table name then None else (if nat_le 4096 (len table) then Some TableFull else None))) ≡ None → length name ≤ 32) [
      | true ↦ λ t e. absurd cc
      | false ↦ λ t e. ltb-false 32 (length name) t
    ] refl none
