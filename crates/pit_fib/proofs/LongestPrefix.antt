-- Among the prefixes of a name that have a value, the longest prefix.
use Rattle.std.proofs.Common.{◌≡◌, ℕ, zero, suc, ◌<◌, ◌≤◌, true, false, List, take, refl, ap, ◌∙◌, arith, ltb}
use Rattle.std.specs.Prelude.{Option, None, Some, IsSome}
use Rattle.std.specs.Option.{option_or}
use Rattle.std.specs.FinMap.{get}
use Rattle.std.proofs.lemmas.Bool.{ltb-true, ltb-false}
use Rattle.ndn_tlv.specs.Element.{Field}
use Rattle.name_trie.specs.ByName.{ByName, longest_within}

first_there : {X : Type 0} (a b : Option X) → IsSome a → option_or a b ≡ a
first_there None b there = absurd cc
first_there (Some x) b there = refl

module _ {X : Type 0} (table : ByName X) (name : List Field) where
  pub within_is : (n k : ℕ) → n ≤ k → IsSome (get table (take n name)) → ((m : ℕ) → n < m → m ≤ k → get table (take m name) ≡ None)
      → longest_within table name k ≡ get table (take n name)
  within_is n zero le there none =
      let same : zero ≡ n = omega (arith, le) in ap (λ (m : ℕ). get table (take m name)) same
  within_is n (suc k) le there none =
      elim (ltb n (suc k)) as (λ b. ltb n (suc k) ≡ b → option_or (get table (take (suc k) name)) (longest_within table name k) ≡ get table (take n name)) [
        | true ↦ λ e.
            let lt = ltb-true n (suc k) e in
            ap (λ (o : Option X). option_or o (longest_within table name k)) (none (suc k) lt (omega arith))
            ∙ within_is n k (omega (arith, lt)) there (λ m above within. none m above (omega (arith, within)))
        | false ↦ λ e.
            let least = ltb-false n (suc k) e in
            let same : suc k ≡ n = omega (arith, le, least) in
            ap (λ (m : ℕ). option_or (get table (take m name)) (longest_within table name k)) same
            ∙ first_there (get table (take n name)) (longest_within table name k) there
      ] refl

  pub within_none : (k : ℕ) → ((m : ℕ) → m ≤ k → get table (take m name) ≡ None) → longest_within table name k ≡ None
  within_none zero none = none zero (omega arith)
  within_none (suc k) none =
      ap (λ (o : Option X). option_or o (longest_within table name k)) (none (suc k) (omega arith))
      ∙ within_none k (λ m le. none m (omega (arith, le)))
