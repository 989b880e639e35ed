-- The least Nack reason in the out-records.
use Rattle.std.proofs.Common.{◌≡◌, ◌⊎◌, inl, inr, ℕ, ◌≤◌, Bool, true, false, cond, List, [], ◌∷◌, refl, sym, ap, subst, ◌∙◌, arith, ltb}
use lib.Dec.{T}
use Rattle.std.specs.Prelude.{Option, Some, None, option_and_then, unwrap_or, min, ◌↔◌}
use Rattle.std.specs.List.{AllByRecursion}
use Rattle.std.specs.Ordering.{nat_cmp, eq_by_cmp, is_eq}
use Rattle.std.specs.Cmp.{nat_cmp_total, tied_itself}
use Rattle.std.specs.FinMap as map
use Rattle.std.specs.FinMap.{find, is_sorted, entries, entries_sorted, get-entries, get-insert, nat_cmp-IsAntisymmetric}
use Rattle.std.specs.FinMap.Entries.{below_all}
use Rattle.std.proofs.lemmas.Bool.Decides.{nat_tests}
use Rattle.pit_fib.specs.declared.nacked.Nacked.{Nacked}
use Rattle.pit_fib.specs.declared.nacked.Nacked.TheVariants.{NoPending, Waiting, All}
use Rattle.pit_fib.specs.Records.{OutRecord, OutRecords, Records}
use Rattle.pit_fib.specs.Cause.{with_reason, nacked_with}
use Rattle.pit_fib.specs.Pit.{IsLeastReason, was_sent, least_reason, all_nacked, nacked_answer}
use Rattle.ndn_names.proofs.Rows.{first_of, second_of}
use Rattle.name_trie.proofs.Revised.{equal, find_below}

abbrev Row : Type 0
Row = ℕ × OutRecord

-- the row has a reason, which is at least `least`
abbrev HasAbove : ℕ → Row → Type 0
HasAbove least row = (reason : ℕ) × (row.1.reason ≡ Some reason) × (least ≤ reason)

-- some row has exactly the reason `least`
abbrev IsOne : ℕ → List Row → Type 0
IsOne least [] = ⊥
IsOne least (row ∷ rows) = (row.1.reason ≡ Some least) ⊎ IsOne least rows

abbrev IsLeast : ℕ → ℕ → List Row → Type 0
IsLeast least start rows = AllByRecursion (HasAbove least) rows × (least ≤ start) × ((least ≡ start) ⊎ IsOne least rows)

inside : {a b : ℕ} → Some a ≡ Some b → a ≡ b
inside {a} {b} e = ap (λ o. unwrap_or o a) e

nothing : {X : Type 0} {x : X} → None ≡ Some x → ⊥
nothing e = absurd cc

-- ---- what `least_reason` returns for the rows

pub fold_is : (start least : ℕ) (rows : List Row) → least_reason start rows ≡ Some least → IsLeast least start rows
fold_is start least [] e = (tt, (let same = inside e in omega (arith, same)), inl (sym (inside e)))
fold_is start least (row ∷ rows) e = go (λ first. fold_is first least rows) row.1.reason refl e
  where
    go : ((first : ℕ) → least_reason first rows ≡ Some least → IsLeast least first rows) → (o : Option ℕ) → row.1.reason ≡ o → option_and_then (λ reason. least_reason (min start reason) rows) o ≡ Some least → IsLeast least start (row ∷ rows)
    go further None is e = absurd (nothing e)
    go further (Some reason) is e =
        let rest = further (min start reason) e in (
          ((reason, is, (let le = rest.1 in grind (arith, nat_tests, le))), rest.0),
          (let le = rest.1 in grind (arith, nat_tests, le)),
          one rest.2,
        )
      where
        by_order : (b : Bool) → ltb start reason ≡ b → least ≡ min start reason → (least ≡ start) ⊎ ((row.1.reason ≡ Some least) ⊎ IsOne least rows)
        by_order true t same = inl (grind (arith, nat_tests, t, same))
        by_order false t same = inr (inl (is ∙ ap Some (grind (arith, nat_tests, t, same))))

        one : (least ≡ min start reason) ⊎ IsOne least rows → (least ≡ start) ⊎ ((row.1.reason ≡ Some least) ⊎ IsOne least rows)
        one (inl same) = by_order (ltb start reason) refl same
        one (inr later) = inr (inr later)

pub is_fold : (start least : ℕ) (rows : List Row) → IsLeast least start rows → least_reason start rows ≡ Some least
is_fold start least [] (all, le, inl same) = ap Some (sym same)
is_fold start least [] (all, le, inr never) = absurd never
is_fold start least (row ∷ rows) (all, le, one) =
    let reason = all.0.0 in
    ap (option_and_then (λ reason. least_reason (min start reason) rows)) all.0.1
    ∙ is_fold (min start reason) least rows (all.1, (let above = all.0.2 in grind (arith, nat_tests, above, le)), rest one)
  where
    rest : (least ≡ start) ⊎ ((row.1.reason ≡ Some least) ⊎ IsOne least rows) → (least ≡ min start all.0.0) ⊎ IsOne least rows
    rest (inl same) = inl (let above = all.0.2 in grind (arith, nat_tests, above, same))
    rest (inr (inl mine)) = inl (let same = inside (sym all.0.1 ∙ mine) in grind (arith, nat_tests, le, same))
    rest (inr (inr later)) = inr later

-- ---- sorted rows, and the map that they represent

module _ (least : ℕ) where
  some_inside : {a b : OutRecord} → Some a ≡ Some b → a ≡ b
  some_inside {a} {b} e = ap (λ o. unwrap_or o a) e

  all_found : (rows : List Row) → AllByRecursion (HasAbove least) rows → (face : ℕ) (sent : OutRecord) → find nat_cmp face rows ≡ Some sent → HasAbove least (face, sent)
  all_found [] all face sent e = absurd (nothing e)
  all_found (row ∷ rows) all face sent e =
      elim (eq_by_cmp nat_cmp face row.0) as (λ b. cond b (Some row.1) (find nat_cmp face rows) ≡ Some sent → HasAbove least (face, sent)) [
        | true ↦ λ e. subst (λ (s : OutRecord). HasAbove least (face, s)) (some_inside e) (all.0.0, all.0.1, all.0.2)
        | false ↦ λ e. all_found rows all.1 face sent e
      ] e

  -- if a lookup of a face in the rows after the first row finds an out-record, a lookup in all rows
  -- finds the same out-record
  kept : (row : Row) (rows : List Row) → T (is_sorted nat_cmp (row ∷ rows)) → (face : ℕ) (sent : OutRecord) → find nat_cmp face rows ≡ Some sent → find nat_cmp face (row ∷ rows) ≡ Some sent
  kept row rows sorted face sent e =
      elim (eq_by_cmp nat_cmp face row.0) as (λ b. eq_by_cmp nat_cmp face row.0 ≡ b → cond b (Some row.1) (find nat_cmp face rows) ≡ Some sent) [
        | true ↦ λ t.
            let one : face ≡ row.0 = nat_cmp-IsAntisymmetric face row.0 (equal (nat_cmp face row.0) t) in
            let none : find nat_cmp face rows ≡ None = find_below nat_cmp face rows (subst (λ (f : ℕ). T (below_all nat_cmp f rows)) (sym one) (first_of _ _ sorted)) in
            absurd (nothing (sym none ∙ e))
        | false ↦ λ t. e
      ] refl

  first_found : (row : Row) (rows : List Row) → find nat_cmp row.0 (row ∷ rows) ≡ Some row.1
  first_found row rows = ap (λ b. cond b (Some row.1) (find nat_cmp row.0 rows)) (ap is_eq (tied_itself nat_cmp_total row.0))

  found_all : (rows : List Row) → T (is_sorted nat_cmp rows) → ((face : ℕ) (sent : OutRecord) → find nat_cmp face rows ≡ Some sent → HasAbove least (face, sent)) → AllByRecursion (HasAbove least) rows
  found_all [] sorted h = tt
  found_all (row ∷ rows) sorted h =
      let mine = h row.0 row.1 (first_found row rows) in
      ((mine.0, mine.1, mine.2), found_all rows (second_of _ _ sorted) (λ face sent e. h face sent (kept row rows sorted face sent e)))

  one_found : (rows : List Row) → T (is_sorted nat_cmp rows) → IsOne least rows → (face : ℕ) × (sent : OutRecord) × (find nat_cmp face rows ≡ Some sent) × (sent.reason ≡ Some least)
  one_found [] sorted never = absurd never
  one_found (row ∷ rows) sorted (inl mine) = (row.0, row.1, first_found row rows, mine)
  one_found (row ∷ rows) sorted (inr later) =
      let there = one_found rows (second_of _ _ sorted) later in
      (there.0, there.1, kept row rows sorted there.0 there.1 there.2, there.3)

  found_one : (rows : List Row) (face : ℕ) (sent : OutRecord) → find nat_cmp face rows ≡ Some sent → sent.reason ≡ Some least → IsOne least rows
  found_one [] face sent e is = absurd (nothing e)
  found_one (row ∷ rows) face sent e is =
      elim (eq_by_cmp nat_cmp face row.0) as (λ b. cond b (Some row.1) (find nat_cmp face rows) ≡ Some sent → (row.1.reason ≡ Some least) ⊎ IsOne least rows) [
        | true ↦ λ e. inl (ap (λ (s : OutRecord). s.reason) (some_inside e) ∙ is)
        | false ↦ λ e. inr (found_one rows face sent e is)
      ] e

-- ---- a Nack with the Nonce that was last sent to the face

module _ (r : Records) (face : ℕ) (nonce : List ℕ) (reason : ℕ) where
  abbrev after : OutRecords
  after = with_reason face nonce reason r.out_records (map.get r.out_records face)

  -- if the face's out-record has the Nonce of the Nack, the Nack sets the reason of this out-record
  -- to the Nack's reason
  here : was_sent (map.get r.out_records face) nonce ≡ true → (sent : OutRecord) × (map.get after face ≡ Some sent) × (sent.reason ≡ Some reason)
  here was = go (map.get r.out_records face) was
    where
      go : (o : Option OutRecord) → was_sent o nonce ≡ true → (sent : OutRecord) × (map.get (with_reason face nonce reason r.out_records o) face ≡ Some sent) × (sent.reason ≡ Some reason)
      go None was = absurd (differ was)
        where
          differ : false ≡ true → ⊥
          differ e = absurd cc
      go (Some s) was = (
        nacked_with nonce reason s,
        get-insert nat_cmp_total r.out_records face (nacked_with nonce reason s) face
            ∙ ap (λ b. cond b (Some (nacked_with nonce reason s)) (map.get r.out_records face)) (ap is_eq (tied_itself nat_cmp_total face)),
        ap (λ b. reason_of (cond b (record s { reason = Some reason }) s)) was,
      )
        where
          reason_of : OutRecord → Option ℕ
          reason_of s = s.reason

  answer_is : was_sent (map.get r.out_records face) nonce ≡ true → nacked_answer r face nonce reason ≡ all_nacked (least_reason reason (entries after))
  answer_is was = ap (λ b. cond b (all_nacked (least_reason reason (entries after))) NoPending) was

  all_is : (o : Option ℕ) (least : ℕ) → all_nacked o ≡ All least → o ≡ Some least
  all_is None least e = absurd (differ e)
    where
      differ : Waiting ≡ All least → ⊥
      differ e = absurd cc
  all_is (Some m) least e = ap Some (number e)
    where
      number_of : Nacked → ℕ
      number_of NoPending = m
      number_of Waiting = m
      number_of (All n) = n

      number : All m ≡ All least → m ≡ least
      number e = ap number_of e

  pub least_goes_back : (least : ℕ) → was_sent (map.get r.out_records face) nonce ≡ true → (nacked_answer r face nonce reason ≡ All least) ↔ IsLeastReason after least
  least_goes_back least was = (
    λ e.
        let fold = fold_is reason least rows (all_is (least_reason reason rows) least (sym (answer_is was) ∙ e)) in
        record {
          each = λ f s there. let mine = all_found least rows fold.0 f s (sym (get-entries after f) ∙ there) in (mine.0, mine.1, mine.2);
          one = one_of fold.2;
        },
    λ h.
        let mine = here was in
        let bound = h.each face mine.0 mine.1 in
        let le : least ≤ reason = (let same = inside (sym bound.1 ∙ mine.2) in omega (arith, same, bound.2)) in
        let all = found_all least rows sorted (λ f s e. let there = h.each f s (get-entries after f ∙ e) in (there.0, there.1, there.2)) in
        let one = found_one least rows h.one.0 h.one.1 (sym (get-entries after h.one.0) ∙ h.one.2) h.one.3 in
        answer_is was ∙ ap all_nacked (is_fold reason least rows (all, le, inr one)),
  )
    where
      rows : List Row
      rows = entries after

      sorted : T (is_sorted nat_cmp rows)
      sorted = entries_sorted after

      one_of : (least ≡ reason) ⊎ IsOne least rows → (f : ℕ) × (s : OutRecord) × (map.get after f ≡ Some s) × (s.reason ≡ Some least)
      one_of (inl same) = let mine = here was in (face, mine.0, mine.1, mine.2 ∙ ap Some (sym same))
      one_of (inr one) = let there = one_found least rows sorted one in (there.0, there.1, get-entries after there.0 ∙ there.2, there.3)

  pub not_pending : (nacked_answer r face nonce reason ≡ NoPending) ↔ (was_sent (map.get r.out_records face) nonce ≡ false)
  not_pending = (λ e. go (was_sent (map.get r.out_records face) nonce) refl e, λ e. ap (λ b. cond b (all_nacked (least_reason reason (entries after))) NoPending) e)
    where
      differ : (o : Option ℕ) → all_nacked o ≡ NoPending → ⊥
      differ None e = absurd cc
      differ (Some m) e = absurd cc

      go : (b : Bool) → was_sent (map.get r.out_records face) nonce ≡ b → cond b (all_nacked (least_reason reason (entries after))) NoPending ≡ NoPending → was_sent (map.get r.out_records face) nonce ≡ false
      go false t e = t
      go true t e = absurd (differ (least_reason reason (entries after)) e)
