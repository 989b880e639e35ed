-- What a pipeline does at all sequences of calls. In each list the latest call stands first.
use Rattle.std.specs.Prelude.{◌≡◌, ℕ, ◌+◌, nat_lt, ◌&&◌, ◌||◌, ◌==◌, not, Bool, false, List, [], ◌∷◌, Option, None, Some, if◌then◌else◌}
use Rattle.std.specs.List.{list_any}
use Rattle.interest_pipeline.specs.declared.place.Sending.{Sending}
use Rattle.interest_pipeline.specs.declared.place.Place.{Place}
use Rattle.interest_pipeline.specs.declared.place.Place.TheVariants.{InFlight, Lost}
use Rattle.interest_pipeline.specs.Places.{slows}
use Rattle.interest_pipeline.specs.Flight.{place_of}
use Rattle.interest_pipeline.specs.Pipeline.{PipelineState, after_answer, after_expire, after_last, after_loss, after_next, number_to_send}

-- a call, with its arguments
pub data Call : Type 0 where
  Next : (now : ℕ) → Call
  Answer : (number : ℕ) (now : ℕ) → Call
  Loss : (number : ℕ) → Call
  Expire : (now : ℕ) → Call
  Last : (number : ℕ) → Call

abbrev pub after : PipelineState → Call → PipelineState
after s (Next now) = after_next s now
after s (Answer number now) = after_answer s number now
after s (Loss number) = after_loss s number
after s (Expire now) = after_expire s now
after s (Last number) = after_last s number

abbrev pub state_after : PipelineState → List Call → PipelineState
state_after first [] = first
state_after first (call ∷ earlier) = after (state_after first earlier) call

abbrev pub is_number : Option ℕ → ℕ → Bool
is_number None number = false
is_number (Some sent) number = sent == number

-- whether the call sends the segment with this number
abbrev pub sends : PipelineState → Call → ℕ → Bool
sends s (Next now) number = is_number (number_to_send s) number
sends s call number = false

-- how often the segment was sent
abbrev pub sendings_of : PipelineState → List Call → ℕ → ℕ
sendings_of first [] number = 0
sendings_of first (call ∷ earlier) number =
    if sends (state_after first earlier) call number
    then sendings_of first earlier number + 1 else sendings_of first earlier number

-- whether the call is an answer to the segment
abbrev pub is_answer : Call → ℕ → Bool
is_answer (Answer other now) number = other == number
is_answer call number = false

-- whether an answer to the segment came after the segment had been sent
abbrev pub was_answered : PipelineState → List Call → ℕ → Bool
was_answered first [] number = false
was_answered first (call ∷ earlier) number =
    is_answer call number && nat_lt 0 (sendings_of first earlier number)
    || was_answered first earlier number

abbrev pub IsInFlight : PipelineState → ℕ → Type 0
IsInFlight s number = (x : Sending) × (place_of s.flight number ≡ Some (InFlight x))

-- the segment waits to be sent again
abbrev pub IsLost : PipelineState → ℕ → Type 0
IsLost s number = (x : Sending) × (place_of s.flight number ≡ Some (Lost x))

-- whether the loss of this place halves the window
abbrev pub counts : Option Place → Bool
counts (Some (InFlight x)) = not x.spared
counts place = false

-- whether the call halves the window
abbrev pub halves : PipelineState → Call → Bool
halves s (Loss number) = counts (place_of s.flight number)
halves s (Expire now) = list_any (slows now) s.flight.places
halves s call = false
