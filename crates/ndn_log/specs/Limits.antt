-- The limits on the lines that strangers can cause: lines about packets that were denied or
-- dropped, and about failed sends. Each of these lines has a face. In a second, at most 10 lines of
-- one face are shown, and at most 100 lines of all faces together. Seconds are whole seconds of the
-- node's time: moments with the same quotient by 1,000.
use Rattle.std.specs.Prelude.{ℕ, ◌+◌, ◌-◌, ◌/◌, ◌^◌, min, List, [], ◌∷◌, ◌++◌, length, Bool, not, nat_le, ◌&&◌, ◌==◌, if◌then◌else◌}
use Rattle.std.specs.List.{count_by}
use Rattle.ndn_log.specs.declared.limits.ShownLine.{ShownLine}
use Rattle.ndn_log.specs.declared.limits.TheConstants.{FACE_LINES, SECOND_LINES}

-- what the limits see of a line
pub record Notice : Type 0 where
  -- the second of the line's time
  pub second : ℕ
  pub face : ℕ

abbrev pub second_of : ℕ → ℕ
second_of moment = moment / 1000

abbrev pub notice_of : ℕ → ℕ → Notice
notice_of moment face = record { second = second_of moment; face = face }

abbrev pub is_in : ℕ → Notice → Bool
is_in second notice = notice.second == second

abbrev pub is_at : ℕ → ℕ → Notice → Bool
is_at second face notice = notice.second == second && notice.face == face

-- Which lines are shown. In the lists below, the latest notice comes first.

-- whether at least 10 of the shown lines are in the notice's second and of its face
abbrev pub has_share : Notice → List Notice → Bool
has_share notice shown = nat_le FACE_LINES (count_by (is_at notice.second notice.face) shown)

-- whether at least 100 of the shown lines are in the notice's second
abbrev pub is_full : Notice → List Notice → Bool
is_full notice shown = nat_le SECOND_LINES (count_by (is_in notice.second) shown)

-- whether the line of a notice is shown after these lines were shown
abbrev pub has_room : Notice → List Notice → Bool
has_room notice shown = not (has_share notice shown) && not (is_full notice shown)

-- the notices whose lines are shown, of the notices that came
abbrev pub shown_among : List Notice → List Notice
shown_among [] = []
shown_among (notice ∷ came) =
    if has_share notice (shown_among came) then shown_among came else (
    if is_full notice (shown_among came) then shown_among came else notice ∷ shown_among came)

-- the notices whose lines are left out because of the limit on their face
abbrev pub left_among : List Notice → List Notice
left_among [] = []
left_among (notice ∷ came) =
    if has_share notice (shown_among came) then notice ∷ left_among came else left_among came

-- the notices whose lines are left out only because of the limit on all faces
abbrev pub others_among : List Notice → List Notice
others_among [] = []
others_among (notice ∷ came) =
    if has_share notice (shown_among came) then others_among came else (
    if is_full notice (shown_among came) then notice ∷ others_among came else others_among came)

-- What a node keeps: the present second alone. Its memory is fixed, since at most 100 lines are
-- shown in a second.

pub record LimitsState : Type 0 where
  -- the present second
  pub second : ℕ
  -- the lines that were shown in this second, the earliest first
  pub shown : List ShownLine
  -- the number of lines that were left out in this second only because of the limit on all faces
  pub others : ℕ

-- the number, but at most the greatest u64
abbrev pub at_most : ℕ → ℕ
at_most n = min n (2 ^ 64 - 1)

abbrev pub is_of : ℕ → ShownLine → Bool
is_of face line = line.face == face

-- how many lines of a face were left out because of the limit on this face; the first line of the
-- face has this number
abbrev pub left_of : ℕ → List ShownLine → ℕ
left_of face [] = 0
left_of face (line ∷ shown) = if line.face == face then line.left else left_of face shown

-- one more line of a face is left out because of the limit on this face
abbrev pub leave : ℕ → List ShownLine → List ShownLine
leave face [] = []
leave face (line ∷ shown) =
    if line.face == face then record line { left = at_most (line.left + 1) } ∷ shown
    else line ∷ leave face shown

-- the second of a moment, before any line
abbrev pub begun : ℕ → LimitsState
begun moment = record { second = second_of moment; shown = []; others = 0 }

-- whether the moment is in another second than the present one
abbrev pub is_over : LimitsState → ℕ → Bool
is_over limits moment = not (second_of moment == limits.second)

-- whether a line is shown; never, if its moment is not in the present second
abbrev pub is_shown : LimitsState → ℕ → ℕ → Bool
is_shown limits moment face =
    not (is_over limits moment)
    && not (nat_le FACE_LINES (count_by (is_of face) limits.shown))
    && not (nat_le SECOND_LINES (length limits.shown))

-- the state after a line, which was shown or left out
abbrev pub limits_after : LimitsState → ℕ → ℕ → LimitsState
limits_after limits moment face =
    if is_over limits moment
    then record limits { others = at_most (limits.others + 1) } else (
    if nat_le FACE_LINES (count_by (is_of face) limits.shown)
    then record limits { shown = leave face limits.shown } else (
    if nat_le SECOND_LINES (length limits.shown)
    then record limits { others = at_most (limits.others + 1) }
    else record limits { shown = limits.shown ++ (record { face = face; left = 0 } ∷ []) }))
