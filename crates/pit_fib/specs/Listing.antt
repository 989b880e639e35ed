-- The state of a walk over all names, for the contracts of private functions.
use Rattle.std.specs.Prelude.{ℕ, List, false, Some, is_some, if◌then◌else◌}
use Rattle.std.specs.FinMap as map
use Rattle.pit_fib.specs.declared.hops.Hop.{Hop}
use Rattle.pit_fib.specs.declared.listing.AsHops.{AsHops}
use Rattle.pit_fib.specs.declared.listing.AtName.{AtName}
use Rattle.pit_fib.specs.Fib.{Entry, entry_left_at}
use Rattle.pit_fib.specs.Hops.{hops_of}
use Rattle.pit_fib.specs.Inheriting.{past_entry}

-- the state of a walk at the moment `now`, before its first entry
abbrev pub start_at : ℕ → AtName
start_at now =
    record {
      now = now;
      is_left = false;
      way = record { at = Some now; inherited = map.empty; costs = map.empty };
    }

-- the state of a walk after the entry `e`, where `s` is the state of the walk before `e`
abbrev pub past_at : AtName → Entry → AtName
past_at s e =
    record {
      now = s.now;
      is_left = is_some (entry_left_at s.now e);
      way = past_entry s.way e;
    }

-- The visitor `s` after it has been shown the name, with the name's effective next hops. The
-- visitor is unchanged if none of the name's next hops and routes is left at the moment of the
-- walk.
abbrev pub hops_shown : {S : Type 0} → (S → List ℕ → List Hop → S) → AsHops S → List ℕ → AtName
    → AsHops S
hops_shown show s name at =
    if at.is_left then record { show = show s.show name (hops_of at.way.costs) } else s
