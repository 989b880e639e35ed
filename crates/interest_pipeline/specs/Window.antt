-- The congestion window (RFC 5681, section 3.1), counted in segments.
use Rattle.std.specs.Prelude.{ℕ, ◌+◌, ◌/◌, min, max, nat_lt, if◌then◌else◌}
use Rattle.interest_pipeline.specs.declared.window.TheConstants.{LEAST_WINDOW}

-- a window as plain data
pub record WindowState : Type 0 where
  -- the greatest window
  pub limit : ℕ
  -- how many segments may be in flight
  pub cwnd : ℕ
  -- the slow start threshold
  pub ssthresh : ℕ
  -- the answers that congestion avoidance has counted since the window last changed
  pub counted : ℕ

-- the first window: slow start from two segments, with a threshold that is as high as possible
abbrev pub first_window : ℕ → WindowState
first_window limit = record {
  limit = limit;
  cwnd = min LEAST_WINDOW limit;
  ssthresh = limit;
  counted = 0;
}

-- after an answer in congestion avoidance: one more for a whole window of answers
abbrev pub counting : WindowState → WindowState
counting w =
    if nat_lt (w.counted + 1) w.cwnd then record w { counted = w.counted + 1 }
    else record w { cwnd = min (w.cwnd + 1) w.limit; counted = 0 }

-- after an answer: one more in slow start
abbrev pub grown : WindowState → WindowState
grown w = if nat_lt w.cwnd w.ssthresh then record w { cwnd = w.cwnd + 1 } else counting w

-- half of the window, but at least two segments, if the limit allows
abbrev pub half_of : WindowState → ℕ
half_of w = min (max (w.cwnd / 2) LEAST_WINDOW) w.limit

-- after a loss
abbrev pub halved : WindowState → WindowState
halved w = record w { cwnd = half_of w; ssthresh = half_of w; counted = 0 }
