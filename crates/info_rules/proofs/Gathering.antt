-- Collecting, one by one, the values of all keys that are a given word.
use Rattle.std.proofs.Common.{◌≡◌, ℕ, Bool, true, false, cond, eqb, ltb, List, [], ◌∷◌, refl, sym, ap, ◌∙◌, append_assoc, arith}
use Rattle.std.specs.Prelude.{Ok, Err, ◌&&◌, ◌||◌}
use Rattle.std.proofs.lemmas.List.{append-nil}
use Rattle.std.proofs.lemmas.Bool.Decides.{nat_tests}
use Rattle.info_rules.specs.declared.fault.RulesFault.{RulesFault}
use Rattle.info_rules.specs.Tree.{Block}
use Rattle.info_rules.specs.Faults.{kind_number, sooner}
use Rattle.info_rules.specs.Keys.{is_word, named}
use Rattle.info_rules.specs.Found.{Found, sooner_of, followed, each, and_one, joined}

-- the pair `(a, b)` is less than the pair `(c, d)` in lexicographic order
abbrev less : ℕ → ℕ → ℕ → ℕ → Bool
less a b c d = ltb a c || (eqb a c && ltb b d)

along : (a b c d e f : ℕ) → less a b c d ≡ true → less e f c d ≡ false → less a b e f ≡ true
along a b c d e f p q = grind (arith, nat_tests)

backed : (a b c d e f : ℕ) → less a b c d ≡ false → less e f a b ≡ false → less e f c d ≡ false
backed a b c d e f p q = grind (arith, nat_tests)

further : (a b c d e f : ℕ) → less a b c d ≡ true → less e f a b ≡ true → less e f c d ≡ true
further a b c d e f p q = grind (arith, nat_tests)

sooner_chain : (x y z : RulesFault) → sooner_of (sooner_of x y) z ≡ sooner_of x (sooner_of y z)
sooner_chain x y z = by_tests (sooner y x) (sooner z y) refl refl
  where
    by_tests : (s t : Bool) → sooner y x ≡ s → sooner z y ≡ t → cond (sooner z (cond s y x)) z (cond s y x) ≡ cond (sooner (cond t z y) x) (cond t z y) x
    by_tests true true p q =
        let r : sooner z x ≡ true = further y.line (kind_number y.kind) x.line (kind_number x.kind) z.line (kind_number z.kind) p q in
        rw (q, r) refl
    by_tests true false p q = rw (q, p) refl
    by_tests false true p q = refl
    by_tests false false p q =
        let r : sooner z x ≡ false = backed y.line (kind_number y.kind) x.line (kind_number x.kind) z.line (kind_number z.kind) p q in
        rw (r, p) refl

joined_more : {A : Type 0} (g : Found (List A)) (one : Found A) (rest : Found (List A)) → joined (and_one g one) rest ≡ joined g (followed one rest)
joined_more (Ok parts) (Ok part) (Ok others) = ap Ok (append_assoc parts (part ∷ []) others)
joined_more (Ok parts) (Ok part) (Err f) = refl
joined_more (Ok parts) (Err e) (Ok others) = refl
joined_more (Ok parts) (Err e) (Err f) = refl
joined_more (Err d) (Ok part) (Ok others) = refl
joined_more (Err d) (Ok part) (Err f) = refl
joined_more (Err d) (Err e) (Ok others) = refl
joined_more (Err d) (Err e) (Err f) = ap Err (sooner_chain d e f)

-- the loop invariant still holds after the value of one more key that is `word` is appended
pub loop_step : {A : Type 0} (f : Block → Found A) (word : List ℕ) (keys others all : List Block) (key : Block) (before after : Found (List A)) (one : Found A) → keys ≡ key ∷ others → is_word word key ≡ true
    → one ≡ f key → after ≡ and_one before one → joined before (each f (named word keys)) ≡ each f (named word all) → joined after (each f (named word others)) ≡ each f (named word all)
unfolding each
loop_step f word keys others all key before after one keys_are is one_is after_is h =
    let now : each f (named word keys) ≡ followed (f key) (each f (named word others)) = rw (keys_are, is) refl in
    rw (after_is, one_is) (joined_more before (f key) (each f (named word others)) ∙ (ap (λ g. joined before g) (sym now) ∙ h))

done : {A : Type 0} (g : Found (List A)) → joined g (Ok []) ≡ g
done (Ok parts) = ap Ok (append-nil parts)
done (Err e) = refl

-- if no keys remain, the collected values are those of all keys that are `word`
pub loop_done : {A : Type 0} (f : Block → Found A) (word : List ℕ) (keys all : List Block) (before read : Found (List A)) → keys ≡ [] → read ≡ before
    → joined before (each f (named word keys)) ≡ each f (named word all) → read ≡ each f (named word all)
unfolding each
loop_done f word keys all before read none is h =
    let empty : each f (named word keys) ≡ Ok [] = rw none refl in
    is ∙ (sym (done before) ∙ (ap (λ g. joined before g) (sym empty) ∙ h))

-- before any key is read, the list `parts` of collected values is empty, so joining `parts` and a
-- result gives this result
pub loop_start : {A : Type 0} (parts : List A) (found : Found (List A)) → parts ≡ [] → joined (Ok parts) found ≡ found
loop_start parts (Ok others) none = rw none refl
loop_start parts (Err f) none = refl

-- the loop invariant still holds after one more key that is not `word`, for which nothing is
-- appended
pub loop_past : {A : Type 0} (f : Block → Found A) (word : List ℕ) (keys others all : List Block) (key : Block) (before : Found (List A)) → keys ≡ key ∷ others → is_word word key ≡ false
    → joined before (each f (named word keys)) ≡ each f (named word all) → joined before (each f (named word others)) ≡ each f (named word all)
loop_past f word keys others all key before keys_are is h = rw (keys_are, is) at h
