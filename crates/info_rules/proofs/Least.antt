-- The least of several faults.
use Rattle.std.proofs.Common.{◌≡◌, ℕ, Bool, true, false, cond, eqb, ltb, List, [], ◌∷◌, refl, ◌∙◌, arith, inl, inr}
use Rattle.std.specs.Prelude.{◌⊎◌, Some, None, MatchOption, ◌&&◌, ◌||◌}
use Rattle.std.proofs.lemmas.Bool.Decides.{nat_tests}
use Rattle.info_rules.specs.declared.fault.RulesFault.{RulesFault}
use Rattle.info_rules.specs.Faults.{kind_number, sooner, after, IsAmong, NoneIsSooner}

-- the pair `(a, b)` is less than the pair `(c, d)` in lexicographic order
abbrev less : ℕ → ℕ → ℕ → ℕ → Bool
less a b c d = ltb a c || (eqb a c && ltb b d)

less_along : (a b c d e f : ℕ) → less a b c d ≡ false → less c d e f ≡ false → less a b e f ≡ false
less_along a b c d e f h k = grind (arith, nat_tests)

less_not : (a b c d : ℕ) → less a b c d ≡ true → less c d a b ≡ false
less_not a b c d h = grind (arith, nat_tests)

less_itself : (a b : ℕ) → less a b a b ≡ false
less_itself a b = grind (arith, nat_tests)

-- if `a` is not reported before `b`, and `b` is not reported before `c`, then `a` is not reported
-- before `c`
along : (a b c : RulesFault) → sooner a b ≡ false → sooner b c ≡ false → sooner a c ≡ false
along a b c h k = less_along a.line (kind_number a.kind) b.line (kind_number b.kind) c.line (kind_number c.kind) h k

itself : (a : RulesFault) → sooner a a ≡ false
itself a = less_itself a.line (kind_number a.kind)

-- `told` is the one of the faults `a` and `b` that is reported
record IsTold (a b told : RulesFault) : Type 0 where
  one : (told ≡ a) ⊎ (told ≡ b)
  first : sooner a told ≡ false
  second : sooner b told ≡ false

told_of_two : (a b : RulesFault) → IsTold a b (cond (sooner b a) b a)
told_of_two a b = by_test (sooner b a) refl
  where
    by_test : (t : Bool) → sooner b a ≡ t → IsTold a b (cond t b a)
    by_test true e = record { one = inr refl; first = less_not b.line (kind_number b.kind) a.line (kind_number a.kind) e; second = itself b }
    by_test false e = record { one = inl refl; first = itself a; second = e }

-- `told` is `fault` or a fault in the list `faults`, and none of these faults is reported before
-- `told`
abbrev IsFirst : RulesFault → List RulesFault → RulesFault → Type 0
IsFirst fault faults told = IsAmong told (fault ∷ faults) × NoneIsSooner told (fault ∷ faults)

first_of_more : (a b c told : RulesFault) (faults : List RulesFault) → IsTold a b c → IsFirst c faults told → IsFirst a (b ∷ faults) told
first_of_more a b c told faults t h = (among t.one h.0, (along a c told t.first h.1.0, (along b c told t.second h.1.0, h.1.1)))
  where
    among : (c ≡ a) ⊎ (c ≡ b) → IsAmong told (c ∷ faults) → IsAmong told (a ∷ b ∷ faults)
    among (inl e) (inl is) = inl (is ∙ e)
    among (inr e) (inl is) = inr (inl (is ∙ e))
    among one (inr is) = inr (inr is)

told_first : (fault : RulesFault) (faults : List RulesFault) → (told : RulesFault) × (after (Some fault) faults ≡ Some told) × IsFirst fault faults told
unfolding after
told_first fault [] = (fault, refl, (inl refl, (itself fault, tt)))
told_first fault (other ∷ faults) =
    let c = cond (sooner other fault) other fault in
    let rest = told_first c faults in
    (rest.0, rest.1, first_of_more fault other c rest.0 faults (told_of_two fault other) rest.2)

pub least_of : (faults : List RulesFault) → MatchOption (after None faults) (faults ≡ []) (λ told. IsAmong told faults × NoneIsSooner told faults)
unfolding after
least_of [] = refl
least_of (fault ∷ faults) = let t = told_first fault faults in rw t.1 t.2
