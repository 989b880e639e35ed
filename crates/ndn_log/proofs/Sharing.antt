-- Laws.
use Rattle.std.proofs.Common.{◌≡◌, ◌<◌, ◌≤◌, ◌+◌, ◌&&◌, ℕ, Bool, true, false, List, [], ◌∷◌, refl, arith, ◌==◌, cond, if◌then◌else◌}
use Rattle.std.specs.List.{count_by}
use Rattle.std.proofs.lemmas.Bool.{eqb-true, leb-false}
use Rattle.std.proofs.lemmas.List.Sums.{sum_by-cons}
use Rattle.ndn_log.specs.declared.limits.TheConstants.{FACE_LINES, SECOND_LINES}
use Rattle.ndn_log.specs.Limits.{Notice, has_share, is_at, is_full, is_in, left_among, others_among, shown_among}

-- a count over a list with one more notice
pub count_more : (p : Notice → Bool) (n : Notice) (xs : List Notice) → count_by p (n ∷ xs) ≡ cond (p n) 1 0 + count_by p xs
count_more p n xs = sum_by-cons (λ x. cond (p x) 1 0) n xs

told_step : (p : Notice → Bool) (n : Notice) (shown left others came : List Notice) (a b : Bool)
    → count_by p shown + count_by p left + count_by p others ≡ count_by p came
    → count_by p (if a then shown else (if b then shown else n ∷ shown)) + count_by p (if a then n ∷ left else left)
    + count_by p (if a then others else (if b then n ∷ others else others)) ≡ count_by p (n ∷ came)
told_step p n shown left others came true b h = omega (arith, count_more p n left, count_more p n came)
told_step p n shown left others came false true h = omega (arith, count_more p n others, count_more p n came)
told_step p n shown left others came false false h = omega (arith, count_more p n shown, count_more p n came)

pub all_told : (p : Notice → Bool) (came : List Notice)
    → count_by p (shown_among came) + count_by p (left_among came) + count_by p (others_among came) ≡ count_by p came
all_told p [] = refl
all_told p (n ∷ came) = told_step p n (shown_among came) (left_among came) (others_among came) came (has_share n (shown_among came)) (is_full n (shown_among came)) (all_told p came)

-- at most `most` notices pass the test after one more that passes only if fewer did
limited_step : (p : Notice → Bool) (n : Notice) (shown : List Notice) (most : ℕ) (q : Bool)
    → count_by p shown ≤ most → p n ≡ q → (q ≡ true → count_by p shown < most) → count_by p (n ∷ shown) ≤ most
limited_step p n shown most true h e room = let fewer = room refl in rw (count_more p n shown, e) (omega arith)
limited_step p n shown most false h e room = rw (count_more p n shown, e) (omega arith)

and_left : (a b : Bool) → (a && b) ≡ true → a ≡ true
and_left true b e = refl
and_left false b e = e

and_right : (a b : Bool) → (a && b) ≡ true → b ≡ true
and_right true b e = e
and_right false b e = cc

pub at_is_own : (second face : ℕ) (n : Notice) → is_at second face n ≡ true → (n.second ≡ second) × (n.face ≡ face)
at_is_own second face n e =
    (eqb-true n.second second (and_left _ _ e), eqb-true n.face face (and_right (n.second == second) _ e))

face_step : (n : Notice) (shown : List Notice) (second face : ℕ) (a b : Bool) → has_share n shown ≡ a
    → count_by (is_at second face) shown ≤ FACE_LINES
    → count_by (is_at second face) (if a then shown else (if b then shown else n ∷ shown)) ≤ FACE_LINES
face_step n shown second face true b e h = h
face_step n shown second face false true e h = h
face_step n shown second face false false e h =
    limited_step (is_at second face) n shown FACE_LINES (is_at second face n) h refl (λ own.
    let (same_second, same_face) = at_is_own second face n own in
    let fewer = leb-false FACE_LINES (count_by (is_at n.second n.face) shown) e in
    rw (same_second, same_face) at fewer)

pub face_is_limited : (came : List Notice) (second face : ℕ) → count_by (is_at second face) (shown_among came) ≤ FACE_LINES
face_is_limited [] second face = omega arith
face_is_limited (n ∷ came) second face =
    face_step n (shown_among came) second face (has_share n (shown_among came)) (is_full n (shown_among came)) refl (face_is_limited came second face)

second_step : (n : Notice) (shown : List Notice) (second : ℕ) (a b : Bool) → is_full n shown ≡ b
    → count_by (is_in second) shown ≤ SECOND_LINES
    → count_by (is_in second) (if a then shown else (if b then shown else n ∷ shown)) ≤ SECOND_LINES
second_step n shown second true b e h = h
second_step n shown second false true e h = h
second_step n shown second false false e h =
    limited_step (is_in second) n shown SECOND_LINES (is_in second n) h refl (λ own.
    let fewer = leb-false SECOND_LINES (count_by (is_in n.second) shown) e in
    rw (eqb-true n.second second own) at fewer)

pub second_is_limited : (came : List Notice) (second : ℕ) → count_by (is_in second) (shown_among came) ≤ SECOND_LINES
second_is_limited [] second = omega arith
second_is_limited (n ∷ came) second =
    second_step n (shown_among came) second (has_share n (shown_among came)) (is_full n (shown_among came)) refl (second_is_limited came second)
