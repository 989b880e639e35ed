-- The search finds the greatest split, or no split exists.
use Rattle.std.proofs.Common.{◌≡◌, ℕ, zero, suc, ◌+◌, ◌<◌, ◌≤◌, ◌⊎◌, Bool, true, false, not, ◌&&◌, cond, List, [], ◌∷◌, ◌++◌, length, take, drop, sum, min, length-drop, Option, Some, None, is_some, refl, sym, ◌∙◌, ap, append_assoc, append-nil, arith, inl, inr, true≢false, eqb, ltb}
use Rattle.std.specs.Prelude.{bytes_eq, option_map}
use Rattle.std.specs.List.{AllByRecursion}
use Rattle.std.proofs.lemmas.Bool.{and_from, and_parts, or_left, or_right, or_cases, cases_Bool, cases_lt, cases_eq, eqb-true, eq-eqb, ltb-true, ltb-false}
use Rattle.std.proofs.lemmas.List.Sums.{sum_by-append}
use Rattle.std.proofs.lemmas.Slice.Eq.{bytes_eq-Decides}
use Rattle.std.specs.Bool.{Decides}
use Rattle.ndn_tlv.specs.Element.{Field}
use Rattle.ndn_names.specs.Order.{DiffersBelow}
use Rattle.name_patterns.specs.Pattern.{PlainTest, Anything, OneOf, NoneOf, PlainAtom, once}
use Rattle.name_patterns.specs.Match.{IsAmong, Passes, IsAtMost, IsSplit, HasNoSplit, IsGreatestSplit}
use Rattle.name_patterns.specs.Greedy.{is_among, passes, at_most, run_of, greatest, first_count, greedy, after_counts}

-- ---- the test of one component

same : (a c : Field) → Decides (eqb a.0 c.0 && bytes_eq a.1 c.1) (a ≡ c)
same a c = (
  (λ e.
      let p = and_parts (eqb a.0 c.0) (bytes_eq a.1 c.1) e in
      let kinds : a.0 ≡ c.0 = eqb-true a.0 c.0 p.0 in
      let values : a.1 ≡ c.1 = (bytes_eq-Decides a.1 c.1).0 p.1 in
      let pairs : (a.0, a.1) ≡ (c.0, c.1) = cc in
      pairs),
  (λ e. and_from _ _ (eq-eqb a.0 c.0 (ap (λ (x : Field). x.0) e)) ((bytes_eq-Decides a.1 c.1).1 (ap (λ (x : Field). x.1) e))),
)

among : (c : Field) (cs : List Field) → Decides (is_among c cs) (IsAmong c cs)
among c [] = (λ e. absurd (true≢false (sym e)), λ h. absurd h)
among c (other ∷ cs) = (
  (λ e. elim (or_cases (eqb other.0 c.0 && bytes_eq other.1 c.1) (is_among c cs) e) [
    | inl is ↦ inl ((same other c).0 is)
    | inr later ↦ inr ((among c cs).0 later)
  ]),
  (λ h. elim h [
    | inl is ↦ or_left _ _ ((same other c).1 is)
    | inr later ↦ or_right _ _ ((among c cs).1 later)
  ]),
)

pub passed : (t : PlainTest) (c : Field) → Decides (passes t c) (Passes t c)
passed Anything c = (λ e. tt, λ h. refl)
passed (OneOf cs) c = among c cs
passed (NoneOf cs) c = (
  (λ e h. let is : is_among c cs ≡ true = (among c cs).1 h in absurd (true≢false (sym e ∙ ap not is))),
  (λ h. elim (cases_Bool (is_among c cs)) [
    | inl is ↦ absurd (h ((among c cs).0 is))
    | inr is ↦ ap not is
  ]),
)

-- ---- runs of components that pass a test

pub run_found : (t : PlainTest) (cs : List Field) (k : ℕ) → k ≤ run_of t cs → (k ≤ length cs) × AllByRecursion (Passes t) (take k cs)
run_found t cs zero h = (omega arith, tt)
run_found t [] (suc k) h = absurd (omega arith)
run_found t (c ∷ cs) (suc k) h =
    elim (cases_Bool (passes t c)) [
      | inl is ↦
          let more : suc k ≤ cond true (1 + run_of t cs) 0 = rw is at h in
          let rest = run_found t cs k (omega arith) in
          (omega arith, ((passed t c).0 is, rest.1))
      | inr not_is ↦
          let more : suc k ≤ cond false (1 + run_of t cs) 0 = rw not_is at h in
          absurd (omega arith)
    ]

pub run_again : (t : PlainTest) (cs : List Field) (k : ℕ) → k ≤ length cs → AllByRecursion (Passes t) (take k cs) → k ≤ run_of t cs
run_again t cs zero h p = omega arith
run_again t [] (suc k) h p = absurd (omega arith)
run_again t (c ∷ cs) (suc k) h p =
    let rest = run_again t cs k (omega arith) p.1 in
    rw ((passed t c).1 p.0) (omega arith)

bound_found : (most : Option ℕ) (n k : ℕ) → k ≤ at_most most n → IsAtMost k most × (k ≤ n)
bound_found None n k h = (tt, h)
bound_found (Some most) n k h = (omega arith, omega arith)

bound_again : (most : Option ℕ) (n k : ℕ) → IsAtMost k most → k ≤ n → k ≤ at_most most n
bound_again None n k a b = b
bound_again (Some most) n k a b = omega arith

-- ---- the greatest number that passes a test

none_here : (k : ℕ) → Some k ≡ None → ⊥
none_here k e = cc

pub no_greatest : (can : ℕ → Bool) (least n : ℕ) → greatest can least n ≡ None → (k : ℕ) → least ≤ k → k ≤ n → can k ≡ true → ⊥
unfolding greatest
no_greatest can least zero e k low high is =
    let k_is : k ≡ 0 = omega arith in
    let least_is : least ≡ 0 = omega arith in
    let at_zero : can 0 ≡ true = rw k_is at is in
    none_here 0 (rw (least_is, at_zero) at e)
no_greatest can least (suc n) e k low high is =
    elim (cases_Bool (ltb (suc n) least)) [
      | inl below ↦ let far : suc n < least = ltb-true (suc n) least below in omega arith
      | inr not_below ↦
          let here : cond (can (suc n)) (Some (suc n)) (greatest can least n) ≡ None = rw not_below at e in
          elim (cases_Bool (can (suc n))) [
            | inl takes ↦ none_here (suc n) (rw takes at here)
            | inr takes_not ↦
                let earlier : greatest can least n ≡ None = rw takes_not at here in
                elim (cases_lt n k) [
                  | inl above ↦
                      let k_is : k ≡ suc n = omega arith in
                      let at_top : can (suc n) ≡ true = rw k_is at is in
                      absurd (true≢false (sym at_top ∙ takes_not))
                  | inr not_above ↦ no_greatest can least n earlier k low not_above is
                ]
          ]
    ]

pub record IsGreatest (can : ℕ → Bool) (least n k : ℕ) : Type 0 where
  pub low : least ≤ k
  pub high : k ≤ n
  pub can_take : can k ≡ true
  pub last : (j : ℕ) → k < j → j ≤ n → can j ≡ true → ⊥

pub some_greatest : (can : ℕ → Bool) (least n k : ℕ) → greatest can least n ≡ Some k → IsGreatest can least n k
unfolding greatest
some_greatest can least zero k e =
    elim (cases_Bool (eqb least 0)) [
      | inl is ↦
          let zero_is : least ≡ 0 = eqb-true least 0 is in
          let here : cond (can 0) (Some 0) None ≡ Some k = rw is at e in
          elim (cases_Bool (can 0)) [
            | inl takes ↦
                let found : Some 0 ≡ Some k = rw takes at here in
                let k_is : 0 ≡ k = cc in
                record { low = omega arith; high = omega arith; can_take = rw (← k_is) takes; last = λ j above high can_take. absurd (omega arith) }
            | inr takes_not ↦ absurd (none_here k (sym (rw takes_not at here)))
          ]
      | inr not_is ↦ absurd (none_here k (sym (rw not_is at e)))
    ]
some_greatest can least (suc n) k e =
    elim (cases_Bool (ltb (suc n) least)) [
      | inl below ↦ absurd (none_here k (sym (rw below at e)))
      | inr not_below ↦
          let near : least ≤ suc n = ltb-false (suc n) least not_below in
          let here : cond (can (suc n)) (Some (suc n)) (greatest can least n) ≡ Some k = rw not_below at e in
          elim (cases_Bool (can (suc n))) [
            | inl takes ↦
                let found : Some (suc n) ≡ Some k = rw takes at here in
                let k_is : suc n ≡ k = cc in
                record { low = omega arith; high = omega arith; can_take = rw (← k_is) takes; last = λ j above high can_take. absurd (omega arith) }
            | inr takes_not ↦
                let earlier : greatest can least n ≡ Some k = rw takes_not at here in
                let g = some_greatest can least n k earlier in
                record {
                  low = g.low;
                  high = omega arith;
                  can_take = g.can_take;
                  last = λ j above high can_take. elim (cases_lt n j) [
                    | inl top ↦
                        let j_is : j ≡ suc n = omega arith in
                        let at_top : can (suc n) ≡ true = rw j_is at can_take in
                        true≢false (sym at_top ∙ takes_not)
                    | inr below ↦ g.last j above below can_take
                  ];
                }
          ]
    ]

-- ---- the split that `greedy` finds

-- If there is no first count, there is no split, and `greedy` returns `None`. If there is a first
-- count, `greedy` returns the greatest split.
abbrev pub IsSearched : List PlainAtom → List Field → Option ℕ → Type 0
IsSearched atoms cs None = HasNoSplit atoms cs × (greedy atoms cs ≡ None)
IsSearched atoms cs (Some k) = (counts : List ℕ) × (greedy atoms cs ≡ Some counts) × IsGreatestSplit atoms cs counts

splits_some : (atoms : List PlainAtom) (cs : List Field) (r : Option ℕ) → IsSearched atoms cs r → is_some r ≡ true
    → (counts : List ℕ) × (greedy atoms cs ≡ Some counts) × IsGreatestSplit atoms cs counts
splits_some atoms cs None h e = absurd (true≢false (sym e))
splits_some atoms cs (Some k) h e = h

some_splits : (atoms : List PlainAtom) (cs : List Field) (r : Option ℕ) (counts : List ℕ) → IsSearched atoms cs r → IsSplit atoms cs counts → is_some r ≡ true
some_splits atoms cs None counts h split = absurd (h.0 counts split)
some_splits atoms cs (Some k) counts h split = refl

abbrev AreSearched : List PlainAtom → Type 0
AreSearched atoms = (cs : List Field) → IsSearched atoms cs (first_count atoms cs)

-- Let `count ∷ counts` be a split. If `atom` has an upper bound, `count` is at most this bound.
-- `count` is also at most the number of leading components that pass the test of `atom`. The other
-- atoms have a split of the components that follow the first `count` components.
taken : (atom : PlainAtom) (atoms : List PlainAtom) (cs : List Field) (count : ℕ) (counts : List ℕ) → AreSearched atoms → IsSplit (atom ∷ atoms) cs (count ∷ counts)
    → (count ≤ at_most atom.bounds.most (run_of atom.test cs)) × (is_some (first_count atoms (drop count cs)) ≡ true)
taken atom atoms cs count counts following split = (
  bound_again atom.bounds.most (run_of atom.test cs) count split.1 (run_again atom.test cs count split.2 split.3),
  some_splits atoms (drop count cs) (first_count atoms (drop count cs)) counts (following (drop count cs)) split.4,
)

-- if `first_count` returns `None` for the atoms `atom ∷ atoms`, these atoms have no split
no_split : (atom : PlainAtom) (atoms : List PlainAtom) (cs : List Field) → AreSearched atoms → first_count (atom ∷ atoms) cs ≡ None
    → (counts : List ℕ) → IsSplit (atom ∷ atoms) cs counts → ⊥
unfolding first_count
no_split atom atoms cs following e [] split = split
no_split atom atoms cs following e (count ∷ counts) split =
    let t = taken atom atoms cs count counts following split in
    no_greatest (λ n. is_some (first_count atoms (drop n cs))) atom.bounds.least (at_most atom.bounds.most (run_of atom.test cs)) e count split.0 t.0 t.1

-- if `k` is the greatest possible first count, and `best` is the greatest split of the components
-- after the first `k` components, every split is at most `k ∷ best`
not_greater : (atom : PlainAtom) (atoms : List PlainAtom) (cs : List Field) (k : ℕ) (best : List ℕ) → AreSearched atoms
    → IsGreatest (λ n. is_some (first_count atoms (drop n cs))) atom.bounds.least (at_most atom.bounds.most (run_of atom.test cs)) k
    → IsGreatestSplit atoms (drop k cs) best
    → (other : List ℕ) → IsSplit (atom ∷ atoms) cs other → (other ≡ k ∷ best) ⊎ DiffersBelow ◌<◌ other (k ∷ best)
not_greater atom atoms cs k best following g rest [] split = absurd split
not_greater atom atoms cs k best following g rest (j ∷ other) split =
    let t = taken atom atoms cs j other following split in
    elim (cases_lt k j) [
      | inl above ↦ absurd (g.last j above t.0 t.1)
      | inr not_above ↦ elim (cases_eq j k) [
        | inl same_count ↦
            let following_split : IsSplit atoms (drop k cs) other = rw same_count at split.4 in
            elim (rest.greatest other following_split) [
              | inl is ↦ inl cc
              | inr d ↦
                  let mine : j ∷ other ≡ (k ∷ d.0) ++ d.3 ∷ d.1 = ap (λ (xs : List ℕ). j ∷ xs) d.5 ∙ ap (λ (n : ℕ). n ∷ (d.0 ++ d.3 ∷ d.1)) same_count in
                  inr (k ∷ d.0, d.1, d.2, d.3, d.4, mine, ap (λ (xs : List ℕ). k ∷ xs) d.6, d.7)
            ]
        | inr other_count ↦ inr ([], other, best, j, k, refl, refl, omega arith)
      ]
    ]

first_is : (atom : PlainAtom) (atoms : List PlainAtom) (cs : List Field) (k : ℕ) → first_count (atom ∷ atoms) cs ≡ Some k
    → IsGreatest (λ n. is_some (first_count atoms (drop n cs))) atom.bounds.least (at_most atom.bounds.most (run_of atom.test cs)) k
unfolding first_count
first_is atom atoms cs k e =
    some_greatest (λ n. is_some (first_count atoms (drop n cs))) atom.bounds.least (at_most atom.bounds.most (run_of atom.test cs)) k e

-- if the results for `atoms` satisfy `IsSearched`, the result for `atom` followed by `atoms`
-- satisfies `IsSearched` too
step : (atom : PlainAtom) (atoms : List PlainAtom) (cs : List Field) → AreSearched atoms
    → (r : Option ℕ) → first_count (atom ∷ atoms) cs ≡ r → IsSearched (atom ∷ atoms) cs r
unfolding greedy
step atom atoms cs following None e = (
  no_split atom atoms cs following e,
  rw e refl,
)
step atom atoms cs following (Some k) e =
    let g = first_is atom atoms cs k e in
    let here = splits_some atoms (drop k cs) (first_count atoms (drop k cs)) (following (drop k cs)) g.can_take in
    let b = bound_found atom.bounds.most (run_of atom.test cs) k g.high in
    let r = run_found atom.test cs k b.1 in (
      k ∷ here.0,
      rw (e, here.1) refl,
      record {
        split = (g.low, b.0, r.0, r.1, here.2.split);
        greatest = not_greater atom atoms cs k here.0 following g here.2;
      },
    )

pub searched : (atoms : List PlainAtom) (cs : List Field) → IsSearched atoms cs (first_count atoms cs)
unfolding first_count greedy
searched [] [] = ([], refl, record { split = (refl, refl); greatest = λ other split. inl split.1 })
searched [] (c ∷ cs) = ((λ counts split. absurd cc), refl)
searched (atom ∷ atoms) cs = step atom atoms cs (searched atoms) (first_count (atom ∷ atoms) cs) refl

-- ---- the counts of the greatest split in order

pub first_fits : (atom : PlainAtom) (atoms : List PlainAtom) (cs : List Field) (k : ℕ) → first_count (atom ∷ atoms) cs ≡ Some k → k ≤ length cs
first_fits atom atoms cs k e =
    (run_found atom.test cs k (bound_found atom.bounds.most (run_of atom.test cs) k (first_is atom atoms cs k e).high).1).0

pub greedy_none : (atom : PlainAtom) (atoms : List PlainAtom) (cs : List Field) → first_count (atom ∷ atoms) cs ≡ None → greedy (atom ∷ atoms) cs ≡ None
unfolding greedy
greedy_none atom atoms cs e = rw e refl

push_count : (done : List ℕ) (k : ℕ) (later : Option (List ℕ)) → after_counts done (option_map (λ counts. k ∷ counts) later) ≡ after_counts (done ++ k ∷ []) later
push_count done k None = refl
push_count done k (Some counts) = ap Some (sym (append_assoc done (k ∷ []) counts))

pub greedy_some : (done : List ℕ) (atom : PlainAtom) (atoms : List PlainAtom) (cs : List Field) (k : ℕ) → first_count (atom ∷ atoms) cs ≡ Some k
    → after_counts done (greedy (atom ∷ atoms) cs) ≡ after_counts (done ++ k ∷ []) (greedy atoms (drop k cs))
unfolding greedy
greedy_some done atom atoms cs k e = rw e (push_count done k (greedy atoms (drop k cs)))

pub greedy_end : (done : List ℕ) (cs : List Field) (k : ℕ) → first_count [] cs ≡ Some k → after_counts done (greedy [] cs) ≡ Some done
unfolding greedy
greedy_end done cs k e = rw (e, append-nil done) refl

pub greedy_no_end : (done : List ℕ) (cs : List Field) → first_count [] cs ≡ None → after_counts done (greedy [] cs) ≡ None
unfolding greedy
greedy_no_end done cs e = rw e refl

-- ---- an atom that takes exactly one component

nothing_by : (atoms : List PlainAtom) (cs : List Field) (r : Option ℕ) → IsSearched atoms cs r → r ≡ None → greedy atoms cs ≡ None
nothing_by atoms cs None h e = h.1
nothing_by atoms cs (Some k) h e = absurd (none_here k e)

-- if `first_count` returns `None`, so does `greedy`
pub nothing_first : (atoms : List PlainAtom) (cs : List Field) → first_count atoms cs ≡ None → greedy atoms cs ≡ None
nothing_first atoms cs e = nothing_by atoms cs (first_count atoms cs) (searched atoms cs) e

greatest_one : (can : ℕ → Bool) → greatest can 1 1 ≡ cond (can 1) (Some 1) None
unfolding greatest
greatest_one can = refl

greatest_no_one : (can : ℕ → Bool) → greatest can 1 0 ≡ None
unfolding greatest
greatest_no_one can = refl

none_first : (atom : PlainAtom) (atoms : List PlainAtom) (cs : List Field) → atom.bounds ≡ once → run_of atom.test cs ≡ 0 → first_count (atom ∷ atoms) cs ≡ None
unfolding first_count
none_first atom atoms cs once_is no_run =
    let most : min 1 0 ≡ 0 = omega arith in
    rw (once_is, no_run, most) (greatest_no_one (λ count. is_some (first_count atoms (drop count cs))))

-- if the first atom matches exactly one component, and the first component fails the atom's test or
-- is missing, `greedy` returns `None`
pub no_single : (atom : PlainAtom) (atoms : List PlainAtom) (cs : List Field) → atom.bounds ≡ once → run_of atom.test cs ≡ 0 → greedy (atom ∷ atoms) cs ≡ None
no_single atom atoms cs once_is no_run = greedy_none atom atoms cs (none_first atom atoms cs once_is no_run)

single_first : (atom : PlainAtom) (atoms : List PlainAtom) (c : Field) (cs : List Field) → atom.bounds ≡ once → passes atom.test c ≡ true
    → first_count (atom ∷ atoms) (c ∷ cs) ≡ cond (is_some (first_count atoms cs)) (Some 1) None
unfolding first_count
single_first atom atoms c cs once_is is =
    let run : run_of atom.test (c ∷ cs) ≡ 1 + run_of atom.test cs = rw is refl in
    let most : min 1 (1 + run_of atom.test cs) ≡ 1 = omega arith in
    rw (once_is, run, most) (greatest_one (λ count. is_some (first_count atoms (drop count (c ∷ cs)))))

-- if the first atom matches exactly one component, and the first component passes the atom's test,
-- `greedy` returns the count 1, followed by the counts for the other atoms and components
pub single_taken : (done : List ℕ) (atom : PlainAtom) (atoms : List PlainAtom) (c : Field) (cs : List Field) → atom.bounds ≡ once → passes atom.test c ≡ true
    → after_counts done (greedy (atom ∷ atoms) (c ∷ cs)) ≡ after_counts (done ++ 1 ∷ []) (greedy atoms cs)
single_taken done atom atoms c cs once_is is = by_rest (first_count atoms cs) refl
  where
    by_rest : (r : Option ℕ) → first_count atoms cs ≡ r → after_counts done (greedy (atom ∷ atoms) (c ∷ cs)) ≡ after_counts (done ++ 1 ∷ []) (greedy atoms cs)
    by_rest None e =
        let first : first_count (atom ∷ atoms) (c ∷ cs) ≡ None = single_first atom atoms c cs once_is is ∙ rw e refl in
        rw (greedy_none atom atoms (c ∷ cs) first, nothing_first atoms cs e) refl
    by_rest (Some k) e =
        greedy_some done atom atoms (c ∷ cs) 1 (single_first atom atoms c cs once_is is ∙ rw e refl)

-- ---- the result of the search

none_by : (atoms : List PlainAtom) (cs : List Field) (r : Option ℕ) → IsSearched atoms cs r → greedy atoms cs ≡ None → HasNoSplit atoms cs
none_by atoms cs None h e = h.0
none_by atoms cs (Some k) h e = absurd cc

pub none_found : (atoms : List PlainAtom) (cs : List Field) → greedy atoms cs ≡ None → HasNoSplit atoms cs
none_found atoms cs e = none_by atoms cs (first_count atoms cs) (searched atoms cs) e

some_by : (atoms : List PlainAtom) (cs : List Field) (r : Option ℕ) (counts : List ℕ) → IsSearched atoms cs r → greedy atoms cs ≡ Some counts → IsGreatestSplit atoms cs counts
some_by atoms cs None counts h e = absurd cc
some_by atoms cs (Some k) counts h e =
    let same_counts : h.0 ≡ counts = cc in
    rw (← same_counts) h.2

pub some_found : (atoms : List PlainAtom) (cs : List Field) (counts : List ℕ) → greedy atoms cs ≡ Some counts → IsGreatestSplit atoms cs counts
some_found atoms cs counts e = some_by atoms cs (first_count atoms cs) counts (searched atoms cs) e

sum_by_cons : (n : ℕ) (ns : List ℕ) → sum (n ∷ ns) ≡ n + sum ns
sum_by_cons n ns = omega (arith, sum_by-append (λ x. x) (n ∷ []) ns)

-- the counts of a split add up to the number of components
pub split_takes_all : (atoms : List PlainAtom) (cs : List Field) (counts : List ℕ) → IsSplit atoms cs counts → sum counts ≡ length cs
split_takes_all [] cs counts split = rw (split.0, split.1) refl
split_takes_all (atom ∷ atoms) cs [] split = absurd split
split_takes_all (atom ∷ atoms) cs (count ∷ counts) split =
    let rest = split_takes_all atoms (drop count cs) counts split.4 in
    let first : sum (count ∷ counts) ≡ count + sum counts = sum_by_cons count counts in
    omega (arith, first, rest, length-drop count cs, split.2)
