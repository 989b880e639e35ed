-- How the state of the limits follows from what came.
use Rattle.std.specs.Prelude.{◌≡◌, ℕ, ◌≤◌, List, length, All}
use Rattle.std.specs.List.{count_by}
use Rattle.ndn_log.specs.Limits.{Notice, LimitsState, at_most, is_in, is_of, is_at, left_of, left_among, others_among, shown_among}

-- The state has the counts of its second among the notices that came, the latest first. None of
-- them is later than this second.
pub record Follows (came : List Notice) (limits : LimitsState) : Type 0 where
  pub latest : All (λ notice. notice.second ≤ limits.second) came
  pub faces : (face : ℕ) → count_by (is_of face) limits.shown
      ≡ count_by (is_at limits.second face) (shown_among came)
  pub all : length limits.shown ≡ count_by (is_in limits.second) (shown_among came)
  pub left : (face : ℕ) → left_of face limits.shown
      ≡ at_most (count_by (is_at limits.second face) (left_among came))
  pub others : limits.others ≡ at_most (count_by (is_in limits.second) (others_among came))
