-- The walk over the table. From the first atom to the last, the walk finds the count that each atom
-- has in the greatest split.
use Rattle.std.proofs.Common.{◌≡◌, ℕ, zero, suc, ◌+◌, ◌^◌, ◌<◌, ◌≤◌, true, List, [], ◌∷◌, ◌++◌, length, map, take, drop, sum, get_or, Option, None, Some, refl, ◌∙◌, arith, inl, inr, length-append}
use Rattle.std.specs.Prelude.{slice_get, slice_set, IsSomeAnd}
use Rattle.std.proofs.lemmas.List.{drop-drop, length-drop, length-map, take-append-le, take_all}
use Rattle.std.proofs.lemmas.List.Sums.{sum_by_push}
use Rattle.std.proofs.Math.Seq.{drop-length}
use Rattle.std.proofs.lemmas.Option.{get_or_from_slice_get}
use Rattle.std.proofs.lemmas.Bool.{cases_eq}
use Rattle.ndn_tlv.specs.Element.{Field}
use Rattle.name_patterns.specs.declared.search.Row.{Row}
use Rattle.name_patterns.specs.Pattern.{PlainAtom, once}
use Rattle.name_patterns.specs.Greedy.{passes, run_of, first_count, greedy, ArePassed, AreSplit, IsRow, IsTable, AreStarts, after_counts, IsTaken}
use Rattle.name_patterns.proofs.Rows.{set_same, set_other, drop_map, nil_after, nil_at_end}
use Rattle.name_patterns.proofs.Splits.{first_fits, greedy_some, greedy_end, greedy_no_end, no_single, single_taken}

-- if `IsSomeAnd o P` holds, `o` has a value, and this value has the property `P`
pub some_of : {X : Type 0} (P : X → Type 0) (o : Option X) → IsSomeAnd o P → (x : X) × (o ≡ Some x) × P x
some_of P None h = absurd h
some_of P (Some x) h = (x, refl, h)

-- if all rows of a table from index `first` on are valid, and `i` is at least `first`, the row at
-- index `i` is valid
pub row_at : (atoms : List PlainAtom) (cs : List Field) (rows : List Row) (first i : ℕ) (d : Row) → IsTable first atoms cs rows → first ≤ i → i ≤ length atoms → IsRow (drop i atoms) cs (get_or rows i d)
row_at atoms cs rows first i d table from low =
    let row = some_of (IsRow (drop i atoms) cs) (slice_get rows i) (table i from low) in
    let row_is : get_or rows i d ≡ row.0 = get_or_from_slice_get rows i row.0 d row.1 in
    rw row_is row.2

-- if a row is valid, its field `split` has the positions from which the atoms have a split
pub row_split : (atoms : List PlainAtom) (cs : List Field) (row : Row) → IsRow atoms cs row → AreSplit atoms cs row.split
row_split [] cs row is = is
row_split (atom ∷ atoms) cs row is = is.2

-- `atoms` is `atom` followed by `later`. `row.passed` are the positions of the components that pass
-- the test of `atom`, and `after.split` are the positions from which `later` has a split.
pub record IsAtomRow (atom : PlainAtom) (atoms later : List PlainAtom) (cs : List Field) (row after : Row) : Type 0 where
  pub cut : atoms ≡ atom ∷ later
  pub passed : ArePassed atom.test cs row.passed
  pub small : row.passed < 2 ^ 64
  pub rest : AreSplit later cs after.split

pub atom_row : {X : Type 0} (f : X → PlainAtom) (xs : List X) (cs : List Field) (rows : List Row) (first i : ℕ) (x : X) (d : Row) → IsTable first (map f xs) cs rows → first ≤ i → i < length xs
    → x ≡ get_or xs i x → IsAtomRow (f x) (drop i (map f xs)) (drop (i + 1) (map f xs)) cs (get_or rows i d) (get_or rows (i + 1) d)
atom_row f xs cs rows first i x d table from low x_is =
    let cut = drop_map f xs i x low x_is in
    let row : IsRow (f x ∷ drop (i + 1) (map f xs)) cs (get_or rows i d) = rw cut at (row_at (map f xs) cs rows first i d table from (omega (arith, length-map xs f))) in
    record {
      cut = cut;
      passed = row.0;
      small = row.1;
      rest = row_split (drop (i + 1) (map f xs)) cs (get_or rows (i + 1) d) (row_at (map f xs) cs rows first (i + 1) d table (omega arith) (omega (arith, length-map xs f)));
    }

cons_at : {X : Type 0} (xs : List X) (i : ℕ) → i < length xs → (x : X) × (drop i xs ≡ x ∷ drop (i + 1) xs)
cons_at [] i h = absurd (omega arith)
cons_at (x ∷ xs) zero h = (x, refl)
cons_at (x ∷ xs) (suc i) h =
    let rest = cons_at xs i (omega arith) in
    (rest.0, rw next rest.1)
  where
    next : suc i + 1 ≡ suc (i + 1)
    next = omega arith

pub taken_none : (atoms : List PlainAtom) (cs : List Field) (i place : ℕ) (starts done : List ℕ) → IsTaken atoms cs i place starts done
    → greedy (drop i atoms) (drop place cs) ≡ None → greedy atoms cs ≡ None
taken_none atoms cs i place starts done w none = w.rest ∙ rw none refl

sum_push : (xs : List ℕ) (n : ℕ) → sum (xs ++ n ∷ []) ≡ sum xs + n
sum_push xs n = sum_by_push (λ x. x) xs n

-- if `k` is the next count of the greatest split, `IsTaken` also holds after `k` is added to the
-- counts `done`
take_step : (atoms : List PlainAtom) (cs : List Field) (i place : ℕ) (starts done : List ℕ) (k : ℕ) → IsTaken atoms cs i place starts done
    → i + 1 < length starts → place + k ≤ length cs
    → after_counts done (greedy (drop i atoms) (drop place cs)) ≡ after_counts (done ++ k ∷ []) (greedy (drop (i + 1) atoms) (drop (place + k) cs))
    → IsTaken atoms cs (i + 1) (place + k) (slice_set starts (i + 1) (place + k)) (done ++ k ∷ [])
take_step atoms cs i place starts done k w room low e =
    let long : length (done ++ k ∷ []) ≡ i + 1 = omega (arith, length-append done (k ∷ []), w.len) in
    let sum_is : sum (done ++ k ∷ []) ≡ place + k = rw (sum_push done k, w.end) refl in
    record {
      len = long;
      end = sum_is;
      fits = low;
      rest = w.rest ∙ e;
      starts_are = λ n from. elim (cases_eq (i + 1) n) [
        | inl is ↦
            let all : take n (done ++ k ∷ []) ≡ done ++ k ∷ [] = take_all n (done ++ k ∷ []) (omega arith) in
            let here : slice_get (slice_set starts (i + 1) (place + k)) (i + 1) ≡ Some (place + k) = set_same starts (i + 1) (place + k) room in
            rw (all, sum_is, ← is) here
        | inr other ↦
            let front : take n (done ++ k ∷ []) ≡ take n done = take-append-le n done (k ∷ []) (omega arith) in
            rw front (set_other starts (i + 1) n (place + k) other ∙ w.starts_are n (omega arith))
      ];
    }

-- if `first_count` returns `k` for the atoms from index `i` on, `IsTaken` also holds after `k` is
-- added to the counts `done`
pub walk_step : (atoms : List PlainAtom) (cs : List Field) (i place : ℕ) (starts done : List ℕ) (k : ℕ) → IsTaken atoms cs i place starts done → i < length atoms
    → i + 1 < length starts → first_count (drop i atoms) (drop place cs) ≡ Some k
    → IsTaken atoms cs (i + 1) (place + k) (slice_set starts (i + 1) (place + k)) (done ++ k ∷ [])
walk_step atoms cs i place starts done k w low room e =
    let a = cons_at atoms i low in
    let first : first_count (a.0 ∷ drop (i + 1) atoms) (drop place cs) ≡ Some k = rw a.1 at e in
    let left : k ≤ length (drop place cs) = first_fits a.0 (drop (i + 1) atoms) (drop place cs) k first in
    let moved : drop k (drop place cs) ≡ drop (place + k) cs = drop-drop k place cs in
    take_step atoms cs i place starts done k w room (omega (arith, length-drop place cs, left, w.fits))
    (rw a.1 (greedy_some done a.0 (drop (i + 1) atoms) (drop place cs) k first ∙ rw moved refl))

-- let `IsTaken` hold for the first `i` atoms and the first `i` components; if the atom at index `i`
-- matches exactly one component, and the component at position `i` fails the atom's test or is
-- missing, there is no split
pub single_none : (atoms : List PlainAtom) (cs : List Field) (i : ℕ) (starts done : List ℕ) (atom : PlainAtom) → IsTaken atoms cs i i starts done
    → drop i atoms ≡ atom ∷ drop (i + 1) atoms → atom.bounds ≡ once → run_of atom.test (drop i cs) ≡ 0 → greedy atoms cs ≡ None
single_none atoms cs i starts done atom w cut once_is no_run =
    taken_none atoms cs i i starts done w (rw cut (no_single atom (drop (i + 1) atoms) (drop i cs) once_is no_run))

pub drop_next : {X : Type 0} (xs : List X) (i : ℕ) (x : X) (rest : List X) → drop i xs ≡ x ∷ rest → (rest ≡ drop (i + 1) xs) × (i < length xs)
drop_next [] zero x rest e = absurd cc
drop_next [] (suc i) x rest e = absurd cc
drop_next (y ∷ xs) zero x rest e =
    let rest_is : rest ≡ xs = cc in
    (rest_is, omega arith)
drop_next (y ∷ xs) (suc i) x rest e =
    let more = drop_next xs i x rest e in
    let next : suc i + 1 ≡ suc (i + 1) = omega arith in
    (rw next more.0, omega (arith, more.1))

-- if the atom at index `i` matches exactly one component, and the component at position `i` passes
-- the atom's test, `IsTaken` also holds after the count 1 is added to the counts `done`
pub single_step : (atoms : List PlainAtom) (cs : List Field) (i : ℕ) (starts done : List ℕ) (atom : PlainAtom) (c : Field) → IsTaken atoms cs i i starts done
    → drop i atoms ≡ atom ∷ drop (i + 1) atoms → drop i cs ≡ c ∷ drop (i + 1) cs → i + 1 < length starts → i + 1 ≤ length cs
    → atom.bounds ≡ once → passes atom.test c ≡ true → IsTaken atoms cs (i + 1) (i + 1) (slice_set starts (i + 1) (i + 1)) (done ++ 1 ∷ [])
single_step atoms cs i starts done atom c w cut front room low once_is is =
    take_step atoms cs i i starts done 1 w room low (rw (cut, front) (single_taken done atom (drop (i + 1) atoms) c (drop (i + 1) cs) once_is is))

dropped_all : {X : Type 0} (xs : List X) (i : ℕ) → i ≡ length xs → drop i xs ≡ []
dropped_all xs i e = rw e (drop-length xs)

pub walk_end : (atoms : List PlainAtom) (cs : List Field) (i place : ℕ) (starts done : List ℕ) → IsTaken atoms cs i place starts done → i ≡ length atoms
    → length cs ≤ place → IsSomeAnd (greedy atoms cs) (λ counts. AreStarts atoms counts starts)
walk_end atoms cs i place starts done w i_is at_end =
    let nil = dropped_all atoms i i_is in
    let place_is : place ≡ length cs = omega (arith, w.fits) in
    let end : first_count [] (drop place cs) ≡ Some 0 = rw place_is (nil_at_end cs) in
    let counts_are : greedy atoms cs ≡ Some done = w.rest ∙ rw nil (greedy_end done (drop place cs) 0 end) in
    rw counts_are (λ n low. w.starts_are n (omega arith))

pub walk_no_end : (atoms : List PlainAtom) (cs : List Field) (i place : ℕ) (starts done : List ℕ) → IsTaken atoms cs i place starts done → i ≡ length atoms
    → place < length cs → greedy atoms cs ≡ None
walk_no_end atoms cs i place starts done w i_is before =
    let nil = dropped_all atoms i i_is in
    w.rest ∙ rw nil (greedy_no_end done (drop place cs) (nil_after cs place before))
