-- The segments that have been asked for and those that may be asked for.
use Rattle.std.specs.Prelude.{◌≡◌, ℕ, ◌+◌, ◌-◌, ◌^◌, ◌<◌, ◌≤◌, nat_lt, nat_le, ◌&&◌, Bool, true, List, [], ◌∷◌, ◌++◌, length, map, drop, take, slice_get, slice_set, position, Option, None, Some, option_map, if◌then◌else◌}
use Rattle.std.specs.List.{count_by, prefix_len}
use Rattle.std.specs.Option.{option_or}
use Rattle.interest_pipeline.specs.declared.place.Place.{Place}
use Rattle.interest_pipeline.specs.declared.place.Place.TheVariants.{Answered}
use Rattle.interest_pipeline.specs.Places.{is_answered, is_in_flight, is_lost, is_spent, spare}

pub record FlightState : Type 0 where
  -- at most so many segments from `base` on are asked for
  pub limit : ℕ
  -- the least segment that has not been answered
  pub base : ℕ
  -- the segments from `base` on that have been asked for
  pub places : List Place
  -- the number of the last segment, once it is known
  pub last : Option ℕ

-- before any segment has been asked for
abbrev pub nothing_sent : ℕ → FlightState
nothing_sent limit = record { limit = limit; base = 0; places = []; last = None }

abbrev pub in_flight_of : FlightState → ℕ
in_flight_of f = count_by is_in_flight f.places

-- the least segment that has not been asked for
abbrev pub next_new : FlightState → ℕ
next_new f = f.base + length f.places

-- what is known of the segment with this number; `None` if it has not been asked for
abbrev pub place_of : FlightState → ℕ → Option Place
place_of f number =
    if nat_lt number f.base then Some Answered else slice_get f.places (number - f.base)

-- the first segment that is lost and may not be sent again
abbrev pub given_up : FlightState → Option ℕ
given_up f = option_map (λ index. f.base + index) (position is_spent f.places)

-- whether the number is not above the last one
abbrev pub is_wanted : Option ℕ → ℕ → Bool
is_wanted None number = true
is_wanted (Some last) number = nat_le number last

-- whether a new segment may be asked for; no segment has the number 2^64 - 1
abbrev pub has_new : FlightState → Bool
has_new f =
    nat_lt (length f.places) f.limit && nat_lt (next_new f) (2 ^ 64 - 1)
    && is_wanted f.last (next_new f)

-- the index of the segment to send, counted from `base`: the first lost one, or else a new one
abbrev pub pick : FlightState → Option ℕ
pick f =
    option_or (position is_lost f.places) (if has_new f then Some (length f.places) else None)

-- the index is that of a segment that has been asked for, or of a new one that may be asked for
abbrev pub IsIndex : FlightState → ℕ → Type 0
IsIndex f index =
    (index ≤ length f.places) × (index ≡ length f.places → has_new f ≡ true)

abbrev pub with_places : FlightState → List Place → FlightState
with_places f places = record f { places = places }

-- the places with another one at an index, or with one more
abbrev pub put : List Place → ℕ → Place → List Place
put places index place =
    if nat_lt index (length places) then slice_set places index place else places ++ place ∷ []

-- without the answered segments at the front
abbrev pub advanced : FlightState → FlightState
advanced f =
    let count = prefix_len is_answered f.places in
    record f { base = f.base + count; places = drop count f.places }

-- the segment with this number has been answered
abbrev pub answered : FlightState → ℕ → FlightState
answered f number = advanced (with_places f (slice_set f.places (number - f.base) Answered))

-- no segment in flight halves the window any more
abbrev pub spared_all : FlightState → FlightState
spared_all f = with_places f (map spare f.places)

-- The number of the last segment is known. Only the first call counts.
abbrev pub ended : Option ℕ → FlightState → ℕ → FlightState
ended (Some known) f last = f
ended None f last = record f { places = take (last + 1 - f.base) f.places; last = Some last }

-- all segments have been answered
abbrev pub IsEnded : FlightState → Type 0
IsEnded f = (last : ℕ) × (f.last ≡ Some last) × (last < f.base)
