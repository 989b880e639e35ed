-- The list of all entries after an expiry. An expiry removes routes, and then removes each entry
-- that has neither next hops nor routes left.
use Rattle.std.proofs.Common.{◌≡◌, ℕ, ◌<◌, true, false, List, [], ◌∷◌, ◌++◌, length, get_or, refl, sym, ap, ◌∙◌}
use Rattle.std.proofs.lemmas.List.{append-nil, map-append}
use Rattle.std.specs.Prelude.{None, Some, IsSome, is_some, map}
use Rattle.std.specs.Option.{option_and_then}
use Rattle.std.specs.FinMap.{entries, get}
use Rattle.ndn_tlv.specs.Element.{Field}
use Rattle.ndn_names.specs.Order.{name_cmp}
use Rattle.ndn_names.specs.Key.{name_cmp-antisymmetric, name_cmp-total}
use Rattle.name_trie.specs.ByName.{revised, with_entry}
use Rattle.name_trie.proofs.Least.{entries-revise}
use Rattle.name_trie.proofs.Revised.{get-revise}
use Rattle.name_trie.proofs.Shown.{entry_is_there}
use Rattle.pit_fib.specs.Effective.{effective, entry_listed, listed}
use Rattle.pit_fib.specs.Fib.{Entry, Routes, entry_left_at, left_at}
use Rattle.pit_fib.specs.Hops.{hops_of}

-- the row at index `i` of the list of entries is a name with the entry that the table has for this
-- name
pub entry_at_place : (t : Routes) (i : ℕ) (row : List Field × Entry) → i < length (entries t) → row ≡ get_or (entries t) i row → get t row.0 ≡ Some row.1
entry_at_place t i row lt is =
    ap (λ (r : List Field × Entry). get t r.0) is ∙ entry_is_there name_cmp-total t i row lt ∙ ap (λ (r : List Field × Entry). Some r.1) (sym is)

pub left_there : (t : Routes) (now : ℕ) (name : List Field) (e : Entry) → get t name ≡ Some e → is_some (entry_left_at now e) ≡ true → IsSome (get (left_at now t) name)
left_there t now name e is some = ap is_some (get-revise name_cmp-antisymmetric (entry_left_at now) t name ∙ ap (option_and_then (entry_left_at now)) is) ∙ some

-- ---- the list with one more entry

revised-append : (now : ℕ) (es : List (List Field × Entry)) (e : List Field × Entry) → revised (entry_left_at now) (es ++ e ∷ []) ≡ revised (entry_left_at now) es ++ with_entry e.0 (entry_left_at now e.1) []
revised-append now [] e = refl
revised-append now (x ∷ es) e =
    let rest = revised-append now es e in
    elim (entry_left_at now x.1) as (λ o. with_entry x.0 o (revised (entry_left_at now) (es ++ e ∷ [])) ≡ with_entry x.0 o (revised (entry_left_at now) es) ++ with_entry e.0 (entry_left_at now e.1) []) [
      | None ↦ rest
      | (Some y) ↦ ap (λ l. (x.0, y) ∷ l) rest
    ]

module _ (lt : Routes) (now : ℕ) (es : List (List Field × Entry)) (e : List Field × Entry) where
  pub one_left : is_some (entry_left_at now e.1) ≡ true
      → map (entry_listed lt) (revised (entry_left_at now) (es ++ e ∷ [])) ≡ map (entry_listed lt) (revised (entry_left_at now) es) ++ (e.0, hops_of (effective lt e.0)) ∷ []
  one_left some =
      ap (map (entry_listed lt)) (revised-append now es e)
      ∙ elim (entry_left_at now e.1) as (λ o. is_some o ≡ true → map (entry_listed lt) (revised (entry_left_at now) es ++ with_entry e.0 o []) ≡ map (entry_listed lt) (revised (entry_left_at now) es) ++ (e.0, hops_of (effective lt e.0)) ∷ []) [
        | None ↦ λ s. absurd cc
        | (Some y) ↦ λ s. map-append (entry_listed lt) (revised (entry_left_at now) es) ((e.0, y) ∷ [])
      ] some

  pub none_left : is_some (entry_left_at now e.1) ≡ false
      → map (entry_listed lt) (revised (entry_left_at now) (es ++ e ∷ [])) ≡ map (entry_listed lt) (revised (entry_left_at now) es)
  none_left gone =
      ap (map (entry_listed lt)) (revised-append now es e)
      ∙ elim (entry_left_at now e.1) as (λ o. is_some o ≡ false → map (entry_listed lt) (revised (entry_left_at now) es ++ with_entry e.0 o []) ≡ map (entry_listed lt) (revised (entry_left_at now) es)) [
        | None ↦ λ s. ap (map (entry_listed lt)) (append-nil (revised (entry_left_at now) es))
        | (Some y) ↦ λ s. absurd cc
      ] gone

pub all_listed : (t : Routes) (now : ℕ) → map (entry_listed (left_at now t)) (revised (entry_left_at now) (entries t)) ≡ listed (left_at now t)
all_listed t now = ap (map (entry_listed (left_at now t))) (sym (entries-revise name_cmp (entry_left_at now) t))
