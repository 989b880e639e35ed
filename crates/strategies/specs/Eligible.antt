-- The next hops that an Interest may be sent to. All next hops lead to open faces: when a face is
-- closed, all next hops that lead to the face are removed.
use Rattle.std.specs.Prelude.{ℕ, List, Bool, false, Option, None, Some, filter, not, ◌==◌, ◌&&◌, ◌||◌}
use Rattle.pit_fib.specs.declared.hops.Hop.{Hop}
use Rattle.strategies.specs.declared.strategy.Ask.{Ask}

abbrev pub is_asker : Option ℕ → ℕ → Bool
is_asker None face = false
is_asker (Some asker) face = asker == face

-- A hop to the face that the Interest came from is not eligible. If the name begins with
-- /localhost, or the HopLimit has become 0, hops to faces that are not Local are not eligible. All
-- other hops are eligible.
abbrev pub is_eligible : Ask → Hop → Bool
is_eligible ask hop =
    not (is_asker ask.asker hop.face) && (hop.local || not (ask.localhost || ask.hop_zero))

abbrev pub eligible : Ask → List Hop → List Hop
eligible ask hops = filter (is_eligible ask) hops
