-- The estimate of the round-trip time, and the retransmission timeout (RFC 6298, sections 2 and 5).
-- All times are in microseconds.
use Rattle.std.specs.Prelude.{ℕ, ◌+◌, ◌-◌, ◌*◌, ◌/◌, ◌≤◌, min, max, Option, None, Some}
use Rattle.std.specs.Int.{abs_diff}
use Rattle.interest_pipeline.specs.declared.rtt.Smoothed.{Smoothed}
use Rattle.interest_pipeline.specs.declared.rtt.TheConstants.{FIRST_RTO, GRANULARITY, GREATEST_RTO, LEAST_RTO}

-- an estimate as plain data
pub record Rtt : Type 0 where
  -- SRTT and RTTVAR, once a sample has been taken
  pub smoothed : Option Smoothed
  -- the retransmission timeout
  pub rto : ℕ

-- before any sample (section 2, rule 2.1)
abbrev pub unmeasured : Rtt
unmeasured = record { smoothed = None; rto = FIRST_RTO }

-- A Smoothed has 8 * SRTT and 4 * RTTVAR.

-- after the first sample (rule 2.2): SRTT = R, RTTVAR = R / 2
abbrev pub first : ℕ → Smoothed
first r = record { srtt8 = 8 * r; rttvar4 = 2 * r }

-- After a later sample (rule 2.3): RTTVAR = 3/4 * RTTVAR + 1/4 * |SRTT - R|, with SRTT as it was
-- before, and SRTT = 7/8 * SRTT + 1/8 * R. The quotients are rounded down to a microsecond.
abbrev pub later : Smoothed → ℕ → Smoothed
later s r = record {
  srtt8 = s.srtt8 - s.srtt8 / 8 + r;
  rttvar4 = s.rttvar4 - s.rttvar4 / 4 + abs_diff (s.srtt8 / 8) r;
}

abbrev pub smoothed_with : Option Smoothed → ℕ → Smoothed
smoothed_with None r = first r
smoothed_with (Some s) r = later s r

-- RTO = SRTT + max (G, 4 * RTTVAR), within the least and the greatest RTO (rules 2.2 to 2.5)
abbrev pub rto_of : Smoothed → ℕ
rto_of s = max LEAST_RTO (min (s.srtt8 / 8 + max GRANULARITY s.rttvar4) GREATEST_RTO)

-- after a sample; one above the greatest RTO counts as the greatest RTO
abbrev pub sampled : Rtt → ℕ → Rtt
sampled t r =
    let s = smoothed_with t.smoothed (min r GREATEST_RTO) in
    record { smoothed = Some s; rto = rto_of s }

-- after a timeout (section 5, rule 5.5)
abbrev pub backed_off : Rtt → Rtt
backed_off t = record t { rto = min (2 * t.rto) GREATEST_RTO }

-- What is true of every estimate: neither SRTT nor RTTVAR is above the greatest RTO.
abbrev pub IsSmooth : Option Smoothed → Type 0
IsSmooth None = Unit {0}
IsSmooth (Some s) = (s.srtt8 ≤ 8 * GREATEST_RTO) × (s.rttvar4 ≤ 4 * GREATEST_RTO)

-- the timeout is within its limits
abbrev pub IsWithin : ℕ → Type 0
IsWithin rto = (LEAST_RTO ≤ rto) × (rto ≤ GREATEST_RTO)
