-- Texts that grow by one part after the other, and reports on one more scenario.
use Rattle.std.proofs.Common.{◌≡◌, ℕ, ◌+◌, List, [], ◌∷◌, ◌++◌, refl, sym, ap, ◌∙◌, append_assoc, append-nil, Bool, true, false, cond, arith, ◌<◌, length, take, get_or, subst, ◌↔◌, IsTrue, inr}
use Rattle.std.proofs.lemmas.List.{take_more}
use Rattle.scenarios.specs.declared.scenario.Scenario.{Scenario}
use Rattle.scenarios.specs.Differ.{Differ}
use Rattle.scenarios.specs.Outcome.{AreAnswersTo}
use Rattle.scenarios.specs.Report.{IsReport, Reported, AreReported, difference_line}

-- one more part after the text `a`
pub then : (old a b x y : List ℕ) → x ≡ old ++ a → y ≡ x ++ b → y ≡ old ++ (a ++ b)
then old a b x y first second = second ∙ ap (λ l. l ++ b) first ∙ append_assoc old a b

-- one more scenario at the end
pub AreReported-last : (xs : List Scenario) (x : Scenario) (text line : List ℕ) (passed differ : ℕ) (ok : Bool)
    → AreReported xs text passed differ → Reported x line ok
    → AreReported (xs ++ (x ∷ [])) (text ++ line) (passed + cond ok 1 0) (differ + cond ok 0 1)
AreReported-last [] x text line passed differ ok (none, no_passed, no_differ) last = (
  line,
  [],
  ok,
  0,
  0,
  last,
  ap (λ l. l ++ line) none ∙ sym (append-nil line),
  (refl, refl, refl),
  ap (λ n. n + cond ok 1 0) no_passed ∙ omega arith,
  ap (λ n. n + cond ok 0 1) no_differ ∙ omega arith,
)
AreReported-last (y ∷ xs) x text line passed differ ok (first, rest, is_passed, others, more, reported, parts, are, counted, also) last = (
  first,
  rest ++ line,
  is_passed,
  others + cond ok 1 0,
  more + cond ok 0 1,
  reported,
  ap (λ l. l ++ line) parts ∙ append_assoc first rest line,
  AreReported-last xs x rest line others more ok are last,
  omega (arith, counted),
  omega (arith, also),
)

total : (passed differ index : ℕ) (ok : Bool) → passed + differ ≡ index
    → (passed + cond ok 1 0) + (differ + cond ok 0 1) ≡ index + 1
total passed differ index true e = omega (arith, e)
total passed differ index false e = omega (arith, e)

-- a count after a scenario that passed or not
pub counted_as : (b c : Bool) (n m x y : ℕ) → b ≡ c → m ≡ n + cond c x y → m ≡ n + cond b x y
counted_as b c n m x y same e = e ∙ ap (λ d. n + cond d x y) (sym same)

-- the state after the scenarios before the place `index`
abbrev pub State : List Scenario → ℕ → List ℕ → List ℕ → ℕ → ℕ → Type 0
State xs index old now passed differ =
    (passed + differ ≡ index)
    × ((lines : List ℕ) × AreReported (take index xs) lines passed differ × (now ≡ old ++ lines))

-- the state after one more scenario
pub State-next : (xs : List Scenario) (index : ℕ) (x : Scenario) (old now new : List ℕ) (passed differ more others : ℕ) (ok : Bool)
    → index < length xs → x ≡ get_or xs index x → State xs index old now passed differ
    → ((line : List ℕ) × Reported x line ok × (new ≡ now ++ line))
    → more ≡ passed + cond ok 1 0 → others ≡ differ + cond ok 0 1
    → State xs (index + 1) old new more others
State-next xs index x old now new passed differ more others ok within item (counted, (lines, are, grown)) (line, reported, appended) passes differs =
    let all : AreReported (take index xs ++ (x ∷ [])) (lines ++ line) (passed + cond ok 1 0) (differ + cond ok 0 1) =
    AreReported-last (take index xs) x lines line passed differ ok are reported in
    let longer : take index xs ++ (x ∷ []) ≡ take (index + 1) xs =
    ap (λ y. take index xs ++ (y ∷ [])) item ∙ sym (take_more xs index x within) in
    let here : AreReported (take (index + 1) xs) (lines ++ line) (passed + cond ok 1 0) (differ + cond ok 0 1) =
    subst (λ (ys : List Scenario). AreReported ys (lines ++ line) (passed + cond ok 1 0) (differ + cond ok 0 1)) longer all in (
      ap (λ n. n + others) passes ∙ ap (λ n. (passed + cond ok 1 0) + n) differs ∙ total passed differ index ok counted,
      (
        lines ++ line,
        subst (λ (n : ℕ). AreReported (take (index + 1) xs) (lines ++ line) n others) (sym passes)
            (subst (λ (n : ℕ). AreReported (take (index + 1) xs) (lines ++ line) (passed + cond ok 1 0) n) (sym differs) here),
        appended ∙ ap (λ l. l ++ line) grown ∙ append_assoc old lines line,
      ),
    )

-- the report on answers that differ
pub IsReport-difference : (name expected found a b old new : List ℕ) → Differ expected found a b → (expected ≡ found → ⊥)
    → new ≡ old ++ difference_line name a b
    → (line : List ℕ) × IsReport name expected found line × (new ≡ old ++ line) × (IsTrue false ↔ (expected ≡ found))
IsReport-difference name expected found a b old new differ unlike grown =
    (difference_line name a b, inr (a, b, differ, refl), grown, ((λ t. cc t), λ same. absurd (unlike same)))

-- the report on one scenario
pub Reported-line : (scenario : Scenario) (name answers found items old new : List ℕ) (passed : Bool)
    → AreAnswersTo scenario items → name ≡ scenario.name.items → answers ≡ scenario.answers.items → found ≡ items
    → ((line : List ℕ) × IsReport name answers found line × (new ≡ old ++ line) × (IsTrue passed ↔ (answers ≡ found)))
    → (line : List ℕ) × Reported scenario line passed × (new ≡ old ++ line)
Reported-line scenario name answers found items old new passed are named expected same (line, is, appended, passes) = (
  line,
  record {
    found = items;
    answers = are;
    is_report =
        subst (λ (n : List ℕ). IsReport n scenario.answers.items items line) named
        (subst (λ (a : List ℕ). IsReport name a items line) expected
        (subst (λ (f : List ℕ). IsReport name answers f line) same is));
    passes =
        subst (λ (a : List ℕ). IsTrue passed ↔ (a ≡ items)) expected
        (subst (λ (f : List ℕ). IsTrue passed ↔ (answers ≡ f)) same passes);
  },
  appended,
)
