-- The moments at which an Interest was last sent to each face, row by row.
use Rattle.std.proofs.Common.{◌≡◌, ℕ, suc, ◌+◌, ◌<◌, ◌≤◌, Bool, true, false, List, [], ◌∷◌, ◌++◌, length, get_or, take, drop, refl, sym, ap, subst, ◌∙◌, arith}
use lib.Dec.{T}
use Rattle.std.specs.Prelude.{Some, ◌&&◌}
use Rattle.std.specs.declared.cmp.Ordering.TheVariants.{Greater}
use Rattle.std.specs.Ordering.{nat_cmp, ordering_reverse}
use Rattle.std.specs.Cmp.{nat_cmp_total}
use Rattle.std.specs.FinMap as map
use Rattle.std.specs.FinMap.{from_sorted, is_sorted, put, entries}
use Rattle.std.specs.FinMap.Entries.{below_all}
use Rattle.std.proofs.lemmas.List.{take_more, take_all, length-take-le, take-append-drop, append-nil}
use Rattle.std.proofs.Math.Seq.{drop-cons}
use Rattle.pit_fib.specs.Tables.{ByFace}
use Rattle.name_trie.specs.ByName.{revised, revise}
use Rattle.pit_fib.specs.Records.{OutRecord, OutRecords}
use Rattle.pit_fib.specs.Pit.{moments}
use Rattle.ndn_names.proofs.Rows.{AllLower, first_of, second_of, is_less, put_past, from_put, len-from_sorted}
use Rattle.name_trie.proofs.Revised.{sorted_revised}

abbrev pub Row : Type 0
Row = ℕ × OutRecord

abbrev pub numbers : List Row → List (ℕ × ℕ)
numbers rows = revised (λ sent. Some sent.moment) rows

abbrev pub moments_in : List Row → ByFace
moments_in rows = from_sorted {R = nat_cmp} (numbers rows)

length-numbers : (rows : List Row) → length (numbers rows) ≡ length rows
length-numbers [] = refl
length-numbers (row ∷ rows) = ap suc (length-numbers rows)

numbers-push : (front : List Row) (row : Row) → numbers (front ++ row ∷ []) ≡ numbers front ++ (row.0, row.1.moment) ∷ []
numbers-push [] row = refl
numbers-push (e ∷ front) row = ap (λ l. (e.0, e.1.moment) ∷ l) (numbers-push front row)

-- if `below_all` is true for `x` and a list of rows, the face of each row is greater than `x`
below_later : (x : ℕ) (front : List Row) (row : Row) (rest : List Row) → T (below_all nat_cmp x (front ++ row ∷ rest)) → nat_cmp row.0 x ≡ Greater
below_later x [] row rest h = nat_cmp_total.antisymm row.0 x ∙ ap ordering_reverse (is_less (nat_cmp x row.0) (first_of _ _ h))
below_later x (e ∷ front) row rest h = below_later x front row rest (second_of _ _ h)

lower_front : (front : List Row) (row : Row) (rest : List Row) → T (is_sorted nat_cmp (front ++ row ∷ rest)) → AllLower nat_cmp row.0 (numbers front)
lower_front [] row rest h = tt
lower_front (e ∷ front) row rest h = (below_later e.0 front row rest (first_of _ _ h), lower_front front row rest (second_of _ _ h))

sorted_front : (front rest : List Row) → T (is_sorted nat_cmp (front ++ rest)) → T (is_sorted nat_cmp front)
sorted_front [] rest h = tt
sorted_front (e ∷ front) rest h = both _ _ (below_front e.0 front (first_of _ _ h)) (sorted_front front rest (second_of _ _ h))
  where
    both : (a b : Bool) → T a → T b → T (a && b)
    both true b p q = q
    both false b p q = p

    below_front : (x : ℕ) (front : List Row) → T (below_all nat_cmp x (front ++ rest)) → T (below_all nat_cmp x front)
    below_front x [] h = tt
    below_front x (e ∷ front) h = both _ _ (first_of _ _ h) (below_front x front (second_of _ _ h))

-- if the insertion of a number fails only when at least 64 faces have a number, and fewer than 64
-- faces have a number, then the insertion succeeds
pub set_here : (b : Bool) (old new : ByFace) (face number : ℕ) → (b ≡ true → new ≡ map.insert old face number) → (b ≡ false → 64 ≤ map.len old) → map.len old < 64 → new ≡ map.insert old face number
set_here true old new face number ok full few = ok refl
set_here false old new face number ok full few = absurd (let many = full refl in omega arith)

module _ (rows : List Row) (sorted : T (is_sorted nat_cmp rows)) (i : ℕ) (row : Row) (lt : i < length rows) (is : row ≡ get_or rows i row) where
  split : rows ≡ take i rows ++ row ∷ drop (suc i) rows
  split = sym (take-append-drop i rows) ∙ ap (λ t. take i rows ++ t) (drop-cons rows i row lt ∙ ap (λ r. r ∷ drop (suc i) rows) (sym is))

  sorted_numbers : T (is_sorted nat_cmp (numbers (take i rows)))
  sorted_numbers = sorted_revised nat_cmp (λ sent. Some sent.moment) (take i rows) (sorted_front (take i rows) (row ∷ drop (suc i) rows) (subst (λ l. T (is_sorted nat_cmp l)) split sorted))

  pub few_so_far : length rows ≤ 64 → map.len (moments_in (take i rows)) < 64
  few_so_far small =
      let size = len-from_sorted nat_cmp (numbers (take i rows)) sorted_numbers ∙ length-numbers (take i rows) ∙ length-take-le i rows (omega arith) in
      omega (arith, size, small)

  pub moments_more : map.insert (moments_in (take i rows)) row.0 row.1.moment ≡ moments_in (take (i + 1) rows)
  moments_more =
      let front = take i rows in
      let low = lower_front front row (drop (suc i) rows) (subst (λ l. T (is_sorted nat_cmp l)) split sorted) in
      let one : put nat_cmp row.0 row.1.moment (numbers front) ≡ numbers front ++ (row.0, row.1.moment) ∷ [] =
      ap (put nat_cmp row.0 row.1.moment) (sym (append-nil (numbers front))) ∙ put_past nat_cmp row.0 row.1.moment (numbers front) [] low in
      let more : numbers (take (i + 1) rows) ≡ put nat_cmp row.0 row.1.moment (numbers front) =
      ap numbers (take_more rows i row lt ∙ ap (λ r. front ++ r ∷ []) (sym is)) ∙ numbers-push front row ∙ sym one in
      sym (from_put nat_cmp_total (numbers front) (numbers (take (i + 1) rows)) sorted_numbers row.0 row.1.moment more)

pub moments_all : (out_records : OutRecords) (i : ℕ) → length (entries out_records) ≤ i → moments_in (take i (entries out_records)) ≡ moments out_records
unfolding revise
moments_all out_records i le = ap moments_in (take_all i (entries out_records) le)
