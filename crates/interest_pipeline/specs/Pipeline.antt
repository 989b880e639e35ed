-- The pipeline of Interests: what each call does.
use Rattle.std.specs.Prelude.{◌≡◌, ℕ, ◌+◌, ◌-◌, ◌^◌, ◌<◌, ◌≤◌, ◌⊎◌, min, nat_le, ◌||◌, ◌==◌, false, map, slice_get, slice_set, Option, None, Some, is_some, option_map, if◌then◌else◌}
use Rattle.std.specs.List.{list_any}
use Rattle.interest_pipeline.specs.declared.place.Sending.{Sending}
use Rattle.interest_pipeline.specs.declared.place.Place.{Place}
use Rattle.interest_pipeline.specs.declared.place.Place.TheVariants.{InFlight, Lost}
use Rattle.interest_pipeline.specs.declared.fault.PipelineFault.{PipelineFault}
use Rattle.interest_pipeline.specs.declared.fault.PipelineFault.TheVariants as fault
use Rattle.interest_pipeline.specs.declared.window.TheConstants.{GREATEST_WINDOW}
use Rattle.interest_pipeline.specs.Rtt.{Rtt, unmeasured, sampled, backed_off}
use Rattle.interest_pipeline.specs.Window.{WindowState, first_window, grown, halved}
use Rattle.interest_pipeline.specs.Places.{expire, slows, soonest}
use Rattle.interest_pipeline.specs.Flight.{FlightState, answered, ended, given_up, nothing_sent, in_flight_of, pick, place_of, put, spared_all, with_places}

-- a pipeline as plain data; moments are in microseconds
pub record PipelineState : Type 0 where
  -- how often a segment may be sent again
  pub retries : ℕ
  pub rtt : Rtt
  pub window : WindowState
  pub flight : FlightState

-- before any call
abbrev pub start : ℕ → ℕ → PipelineState
start limit retries = record {
  retries = retries;
  rtt = unmeasured;
  window = first_window limit;
  flight = nothing_sent limit;
}

-- why no pipeline is made
abbrev pub IsRefused : ℕ → PipelineFault → Type 0
IsRefused limit fault.BadWindow = (limit ≡ 0) ⊎ (GREATEST_WINDOW < limit)
IsRefused limit fault.Memory = (1 ≤ limit) × (limit ≤ GREATEST_WINDOW)

-- ---- sending

-- the index of the segment to send, counted from the least unanswered one
abbrev pub choice : PipelineState → Option ℕ
choice s =
    if is_some (given_up s.flight) || nat_le s.window.cwnd (in_flight_of s.flight) then None
    else pick s.flight

-- the number of the segment to send
abbrev pub number_to_send : PipelineState → Option ℕ
number_to_send s = option_map (λ index. s.flight.base + index) (choice s)

-- how often a segment may still be sent after it has been sent, given what was known of it before
abbrev pub left_after : Option Place → ℕ → ℕ
left_after (Some (Lost x)) retries = x.left - 1
left_after place retries = retries

abbrev pub sending_at : PipelineState → ℕ → ℕ → Sending
sending_at s now index = record {
  moment = now;
  deadline = min (now + s.rtt.rto) (2 ^ 64 - 1);
  left = left_after (slice_get s.flight.places index) s.retries;
  spared = false;
}

abbrev pub sent : Option ℕ → PipelineState → ℕ → PipelineState
sent None s now = s
sent (Some index) s now = record s {
  flight = with_places s.flight (put s.flight.places index (InFlight (sending_at s now index)));
}

abbrev pub after_next : PipelineState → ℕ → PipelineState
after_next s now = sent (choice s) s now

-- ---- answers

-- An answer to a sending. Only a segment that was sent once gives a sample (RFC 6298, section 3).
abbrev pub with_answer : PipelineState → ℕ → ℕ → Sending → PipelineState
with_answer s number now x = record s {
  rtt = if x.left == s.retries then sampled s.rtt (now - x.moment) else s.rtt;
  window = grown s.window;
  flight = answered s.flight number;
}

-- An answer to a segment that has not been asked for, or has been answered, changes nothing.
abbrev pub answering : Option Place → PipelineState → ℕ → ℕ → PipelineState
answering (Some (InFlight x)) s number now = with_answer s number now x
answering (Some (Lost x)) s number now = with_answer s number now x
answering place s number now = s

abbrev pub after_answer : PipelineState → ℕ → ℕ → PipelineState
after_answer s number now = answering (place_of s.flight number) s number now

-- ---- losses

-- The window is halved, and segments that were sent before do not halve it again.
abbrev pub slowed : PipelineState → PipelineState
slowed s = record s { window = halved s.window; flight = spared_all s.flight }

abbrev pub with_loss : PipelineState → ℕ → Sending → PipelineState
with_loss s number x = record s {
  flight = with_places s.flight (slice_set s.flight.places (number - s.flight.base) (Lost x));
}

-- Only a segment in flight can be lost.
abbrev pub losing : Option Place → PipelineState → ℕ → PipelineState
losing (Some (InFlight x)) s number =
    if x.spared then with_loss s number x else slowed (with_loss s number x)
losing place s number = s

abbrev pub after_loss : PipelineState → ℕ → PipelineState
after_loss s number = losing (place_of s.flight number) s number

-- the segments whose time is out are lost
abbrev pub with_expired : PipelineState → ℕ → PipelineState
with_expired s now = record s {
  flight = with_places s.flight (map (expire now) s.flight.places);
}

-- A timeout that halves the window also backs the timer off (RFC 6298, rule 5.5).
abbrev pub after_expire : PipelineState → ℕ → PipelineState
after_expire s now =
    if list_any (slows now) s.flight.places
    then record (slowed (with_expired s now)) { rtt = backed_off s.rtt }
    else with_expired s now

-- the moment at which `expire` is due
abbrev pub deadline_of : PipelineState → Option ℕ
deadline_of s = if is_some (given_up s.flight) then None else soonest s.flight.places

-- ---- the end

abbrev pub after_last : PipelineState → ℕ → PipelineState
after_last s last = record s { flight = ended s.flight.last s.flight last }
