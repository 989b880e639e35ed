-- Lines that are left out.
use Rattle.std.proofs.Common.{◌≡◌, ◌<◌, ◌≤◌, ◌+◌, ℕ, suc, zero, Bool, true, false, List, [], ◌∷◌, ◌++◌, length, get_or, refl, ap, ◌∙◌, sym, arith, Some, None, ◌==◌, cond, not, if◌then◌else◌}
use Rattle.std.specs.List.{count_by, position, position_or_len}
use Rattle.std.proofs.Math.ListN.{set}
use Rattle.std.proofs.lemmas.List.Quantifiers.{position-Some}
use Rattle.std.proofs.lemmas.Bool.{both_ways, eqb-true, ltb-false}
use Rattle.std.proofs.lemmas.List.Sums.{sum_by-cons}
use Rattle.ndn_log.specs.declared.limits.ShownLine.{ShownLine}
use Rattle.ndn_log.specs.Limits.{at_most, is_of, leave, left_of}

-- a line that is left out is counted at the first line of its face
leave_first : (face : ℕ) (shown : List ShownLine) (i : ℕ) (d : ShownLine) → i < length shown
    → is_of face (get_or shown i d) ≡ true → ((k : ℕ) → k < i → is_of face (get_or shown k d) ≡ false)
    → leave face shown ≡ set shown i (record (get_or shown i d) { left = at_most ((get_or shown i d).left + 1) })
leave_first face [] i d within here before = absurd (omega arith)
leave_first face (line ∷ shown) zero d within here before = rw here refl
leave_first face (line ∷ shown) (suc i) d within here before =
    let earlier : (line.face == face) ≡ false = before 0 (omega arith) in
    rw earlier (ap (λ rest. line ∷ rest) (leave_first face shown i d (omega arith) here (λ k h. before (suc k) (omega arith))))

pub leave_at : (face : ℕ) (shown : List ShownLine) (i : ℕ) (d : ShownLine) → position (is_of face) shown ≡ Some i
    → leave face shown ≡ set shown i (record (get_or shown i d) { left = at_most ((get_or shown i d).left + 1) })
leave_at face shown i d at =
    let (within, here, before) = position-Some (is_of face) shown i d at in
    leave_first face shown i d within here before

none_of : (b : Bool) (n : ℕ) → cond b (Some n) None ≡ None → b ≡ false
none_of true n e = cc
none_of false n e = refl

leave_none_step : (face : ℕ) (line : ShownLine) (shown : List ShownLine) (b : Bool)
    → length (line ∷ shown) ≤ cond (not b) (1 + position_or_len (is_of face) shown) 0
    → (length shown ≤ position_or_len (is_of face) shown → leave face shown ≡ shown)
    → (if b then record line { left = at_most (line.left + 1) } ∷ shown else line ∷ leave face shown) ≡ line ∷ shown
leave_none_step face line shown true past rest = absurd (omega arith)
leave_none_step face line shown false past rest = ap (λ lines. line ∷ lines) (rest (omega arith))

leave_past : (face : ℕ) (shown : List ShownLine) → length shown ≤ position_or_len (is_of face) shown → leave face shown ≡ shown
leave_past face [] past = refl
leave_past face (line ∷ shown) past = leave_none_step face line shown (is_of face line) past (leave_past face shown)

-- without a line of the face nothing is counted
pub leave_none : (face : ℕ) (shown : List ShownLine) → position (is_of face) shown ≡ None → leave face shown ≡ shown
leave_none face shown none =
    leave_past face shown (ltb-false (position_or_len (is_of face) shown) (length shown) (none_of _ _ none))

-- What `leave` changes: the number of its own face that is left out, and nothing else.
count_leave_step : (face other : ℕ) (line : ShownLine) (shown rest : List ShownLine) (b : Bool)
    → count_by (is_of other) rest ≡ count_by (is_of other) shown
    → count_by (is_of other) (if b then record line { left = at_most (line.left + 1) } ∷ shown else line ∷ rest) ≡ count_by (is_of other) (line ∷ shown)
count_leave_step face other line shown rest true e =
    sum_by-cons (λ x. cond (is_of other x) 1 0) (record line { left = at_most (line.left + 1) }) shown ∙ sym (sum_by-cons (λ x. cond (is_of other x) 1 0) line shown)
count_leave_step face other line shown rest false e =
    sum_by-cons (λ x. cond (is_of other x) 1 0) line rest ∙ (ap (λ n. cond (is_of other line) 1 0 + n) e ∙ sym (sum_by-cons (λ x. cond (is_of other x) 1 0) line shown))

pub count_leave : (face other : ℕ) (shown : List ShownLine) → count_by (is_of other) (leave face shown) ≡ count_by (is_of other) shown
count_leave face other [] = refl
count_leave face other (line ∷ shown) =
    count_leave_step face other line shown (leave face shown) (line.face == face) (count_leave face other shown)

length_leave_step : (line : ShownLine) (shown rest : List ShownLine) (b : Bool) → length rest ≡ length shown
    → length (if b then record line { left = at_most (line.left + 1) } ∷ shown else line ∷ rest) ≡ length (line ∷ shown)
length_leave_step line shown rest true e = refl
length_leave_step line shown rest false e = ap suc e

pub length_leave : (face : ℕ) (shown : List ShownLine) → length (leave face shown) ≡ length shown
length_leave face [] = refl
length_leave face (line ∷ shown) = length_leave_step line shown (leave face shown) (line.face == face) (length_leave face shown)

left_own_step : (face : ℕ) (line : ShownLine) (shown : List ShownLine) (b : Bool) → (line.face == face) ≡ b
    → 0 < count_by (is_of face) (line ∷ shown)
    → (0 < count_by (is_of face) shown → left_of face (leave face shown) ≡ at_most (left_of face shown + 1))
    → left_of face (if b then record line { left = at_most (line.left + 1) } ∷ shown else line ∷ leave face shown)
    ≡ at_most ((if b then line.left else left_of face shown) + 1)
left_own_step face line shown true e some rest = rw e refl
left_own_step face line shown false e some rest =
    let one : Bool → ℕ = λ b. cond b 1 0 in
    let here = ap one e in
    let more = sum_by-cons (λ x. cond (is_of face x) 1 0) line shown in
    rw e (rest (omega (arith, here, more)))

pub left_own : (face : ℕ) (shown : List ShownLine) → 0 < count_by (is_of face) shown
    → left_of face (leave face shown) ≡ at_most (left_of face shown + 1)
left_own face [] some = absurd (omega arith)
left_own face (line ∷ shown) some = left_own_step face line shown (line.face == face) refl some (left_own face shown)

left_other_step : (face other : ℕ) (line : ShownLine) (shown rest : List ShownLine) (b c : Bool) → (line.face == face) ≡ b → (line.face == other) ≡ c
    → (face == other) ≡ false → left_of other rest ≡ left_of other shown
    → left_of other (if b then record line { left = at_most (line.left + 1) } ∷ shown else line ∷ rest)
    ≡ (if c then line.left else left_of other shown)
left_other_step face other line shown rest true true e f differ h =
    absurd (both_ways (face == other) differ (ap (λ n. n == other) (sym (eqb-true line.face face e)) ∙ f))
left_other_step face other line shown rest true false e f differ h = rw f refl
left_other_step face other line shown rest false true e f differ h = rw f refl
left_other_step face other line shown rest false false e f differ h = rw f h

pub left_other : (face other : ℕ) (shown : List ShownLine) → (face == other) ≡ false → left_of other (leave face shown) ≡ left_of other shown
left_other face other [] differ = refl
left_other face other (line ∷ shown) differ =
    left_other_step face other line shown (leave face shown) (line.face == face) (line.face == other) refl refl differ (left_other face other shown differ)

same_both : (b : Bool) (n : ℕ) → (if b then n else n) ≡ n
same_both true n = refl
same_both false n = refl

left_push_step : (c : Bool) (n : ℕ) (a b : ℕ) → a ≡ b → (if c then n else a) ≡ (if c then n else b)
left_push_step c n a b e = ap (λ m. if c then n else m) e

-- a line that is shown leaves nothing out
pub left_push : (face other : ℕ) (shown : List ShownLine)
    → left_of other (shown ++ (record { face = face; left = 0 } ∷ [])) ≡ left_of other shown
left_push face other [] = same_both (face == other) 0
left_push face other (line ∷ shown) = left_push_step (line.face == other) line.left _ _ (left_push face other shown)
