-- The effective next hops of a name's longest prefix that has an entry, and how many routes expire
-- by a moment.
use Rattle.std.proofs.Common.{◌≡◌, ◌⊎◌, inl, inr, ℕ, zero, suc, ◌+◌, ◌<◌, ◌≤◌, true, false, cond, List, [], ◌∷◌, length, take, refl, sym, ap, subst, ◌∙◌, arith, leb}
use Rattle.std.proofs.lemmas.Bool.{leb-false, leb-true}
use Rattle.std.specs.Prelude.{None, Some, IsSome, filter, is_some}
use Rattle.std.specs.FinMap.{empty, entries, get, len, len-entries}
use Rattle.ndn_tlv.specs.Element.{Field}
use Rattle.name_trie.specs.ByName.{IsLongest, revised, with_entry}
use Rattle.name_trie.specs.Flat.{total}
use Rattle.pit_fib.specs.declared.route.Route.{Route}
use Rattle.pit_fib.specs.declared.route.RouteKey.{RouteKey}
use Rattle.pit_fib.specs.Effective.{effective, longest_costs, longest_hops}
use Rattle.pit_fib.specs.Fib.{Entry, Routes, due_count}
use Rattle.pit_fib.specs.Hops.{hops_of}
use Rattle.pit_fib.specs.Route.{is_due, until_due}
use Rattle.pit_fib.specs.Tables.{ByFace}
use Rattle.pit_fib.specs.Tally.{left_of}
use Rattle.pit_fib.proofs.FibTally.{left_count}

-- ---- the longest prefix that has an entry

at_most_itself : (n k : ℕ) → n ≤ suc k → (n ≡ suc k) ⊎ (n ≤ k)
at_most_itself n k le = elim (leb n k) as (λ b. leb n k ≡ b → (n ≡ suc k) ⊎ (n ≤ k)) [
  | true ↦ λ e. inr (leb-true n k e)
  | false ↦ λ e. inl (let more = leb-false n k e in omega (arith, more, le))
] refl

module _ (routes : Routes) (name : List Field) where
  here : (n k : ℕ) → n ≤ k → IsSome (get routes (take n name)) → ((m : ℕ) → n < m → m ≤ k → get routes (take m name) ≡ None) → longest_costs routes name k ≡ effective routes (take n name)
  here n zero le some none =
      let same : n ≡ 0 = omega (arith, le) in
      subst (λ m. longest_costs routes name 0 ≡ effective routes (take m name)) (sym same)
      (ap (λ b. cond b (effective routes (take 0 name)) empty) (subst (λ m. is_some (get routes (take m name)) ≡ true) same some))
  here n (suc k) le some none =
      elim (at_most_itself n k le) as (λ _. longest_costs routes name (suc k) ≡ effective routes (take n name)) [
        | (inl same) ↦
            subst (λ m. longest_costs routes name (suc k) ≡ effective routes (take m name)) (sym same)
            (ap (λ b. cond b (effective routes (take (suc k) name)) (longest_costs routes name k)) (subst (λ m. is_some (get routes (take m name)) ≡ true) same some))
        | (inr less) ↦
            ap (λ o. cond (is_some o) (effective routes (take (suc k) name)) (longest_costs routes name k)) (none (suc k) (omega (arith, less)) (omega arith))
            ∙ here n k less some (λ m more most. none m more (omega (arith, most)))
      ]

  nowhere : (k : ℕ) → ((m : ℕ) → m ≤ k → get routes (take m name) ≡ None) → longest_costs routes name k ≡ empty
  nowhere zero none = ap (λ o. cond (is_some o) (effective routes (take 0 name)) empty) (none 0 (omega arith))
  nowhere (suc k) none =
      ap (λ o. cond (is_some o) (effective routes (take (suc k) name)) (longest_costs routes name k)) (none (suc k) (omega arith))
      ∙ nowhere k (λ m le. none m (omega (arith, le)))

  pub longest_is : (n : ℕ) → IsLongest routes name n → longest_hops routes name ≡ hops_of (effective routes (take n name))
  longest_is n is = ap (λ (c : ByFace). hops_of c) (here n (length name) is.0 is.1 is.2)

  pub longest_none : ((n : ℕ) → n ≤ length name → get routes (take n name) ≡ None) → longest_hops routes name ≡ hops_of empty
  longest_none none = ap (λ (c : ByFace). hops_of c) (nowhere (length name) none)

-- ---- how many routes expire by a moment

module _ (now : ℕ) where
  abbrev due_of : List (RouteKey × Route) → ℕ
  due_of rows = length (filter (λ r. is_due now r.1) rows)

  due_or_left : (rows : List (RouteKey × Route)) → due_of rows + left_of now rows ≡ length rows
  due_or_left [] = omega arith
  due_or_left (row ∷ rows) =
      let rest = due_or_left rows in
      elim (is_due now row.1) as (λ b. length (cond b (row ∷ filter (λ r. is_due now r.1) rows) (filter (λ r. is_due now r.1) rows)) + length (with_entry row.0 (cond b None (Some row.1)) (revised (until_due now) rows)) ≡ length (row ∷ rows)) [
        | true ↦ omega (arith, rest)
        | false ↦ omega (arith, rest)
      ]

  all_due : (es : List (List Field × Entry)) → total (λ (e : Entry). due_of (entries e.registered)) es + total (λ (e : Entry). left_of now (entries e.registered)) es ≡ total (λ (e : Entry). len e.registered) es
  all_due [] = omega arith
  all_due (e ∷ es) =
      let rest = all_due es in
      let here = due_or_left (entries e.1.registered) in
      let count = len-entries e.1.registered in
      omega (arith, rest, here, count)

  pub due_is : (routes : Routes) → due_count now routes ≡ total (λ (e : Entry). due_of (entries e.registered)) (entries routes)
  due_is routes = (let all = all_due (entries routes) in let left = left_count routes now in omega (arith, all, left))
