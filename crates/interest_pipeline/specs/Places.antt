-- What is known of the segments that have been asked for.
use Rattle.std.specs.Prelude.{ℕ, min, ◌&&◌, nat_le, not, Bool, true, false, List, [], ◌∷◌, Option, None, Some, if◌then◌else◌, ◌==◌}
use Rattle.interest_pipeline.specs.declared.place.Place.{Place}
use Rattle.interest_pipeline.specs.declared.place.Place.TheVariants.{Answered, InFlight, Lost}

abbrev pub is_answered : Place → Bool
is_answered Answered = true
is_answered place = false

abbrev pub is_in_flight : Place → Bool
is_in_flight (InFlight x) = true
is_in_flight place = false

-- the segment waits to be sent again
abbrev pub is_lost : Place → Bool
is_lost (Lost x) = true
is_lost place = false

-- the segment is lost, and may not be sent again
abbrev pub is_spent : Place → Bool
is_spent (Lost x) = x.left == 0
is_spent place = false

-- whether the segment is lost at this moment, and its loss halves the window: it was sent after the
-- window was halved last
abbrev pub slows : ℕ → Place → Bool
slows now (InFlight x) = nat_le x.deadline now && not x.spared
slows now place = false

-- the segment is lost, if its time is out
abbrev pub expire : ℕ → Place → Place
expire now (InFlight x) = if nat_le x.deadline now then Lost x else InFlight x
expire now place = place

-- the loss of a segment in flight does not halve the window any more
abbrev pub spare : Place → Place
spare (InFlight x) = InFlight (record x { spared = true })
spare place = place

-- the sooner of two moments
abbrev pub sooner : Option ℕ → Option ℕ → Option ℕ
sooner None b = b
sooner (Some a) None = Some a
sooner (Some a) (Some b) = Some (min a b)

abbrev pub deadline_of : Place → Option ℕ
deadline_of (InFlight x) = Some x.deadline
deadline_of place = None

-- the least deadline of the segments in flight
abbrev pub soonest : List Place → Option ℕ
soonest [] = None
soonest (place ∷ places) = sooner (deadline_of place) (soonest places)
