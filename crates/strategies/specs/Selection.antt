-- Which of the eligible hops a strategy selects (NFD Developer's Guide, "Strategies": best-route
-- and multicast). Moments are in milliseconds.
use Rattle.std.specs.Prelude.{ℕ, ◌+◌, List, [], ◌∷◌, Bool, false, Option, None, Some, filter, not, nat_lt, unwrap_or, ◌==◌, ◌&&◌, ◌||◌, if◌then◌else◌}
use Rattle.std.specs.List.{list_any}
use Rattle.std.specs.Option.{option_or, option_to_list}
use Rattle.std.specs.FinMap as map
use Rattle.pit_fib.specs.declared.hops.Hop.{Hop}
use Rattle.pit_fib.specs.Hops.{is_before}
use Rattle.pit_fib.specs.Tables.{ByFace}

-- the type of the selection of a strategy: a function from the eligible hops, the moment at which
-- each used face was last used, and the present moment, to the hops that the strategy selects
abbrev pub Selection : Type 0
Selection = List Hop → ByFace → ℕ → List Hop

-- whether the moment `time` is after `now`, or less than 10 ms before `now`
abbrev pub is_recent : ℕ → ℕ → Bool
is_recent now time = nat_lt now (time + 10)

abbrev pub is_new : ByFace → Hop → Bool
is_new asked hop = not (map.contains_key asked hop.face)

-- Whether hop `a` was last used earlier than hop `b`. A hop that was never used counts as used at
-- the moment 0. If `a` and `b` were last used at the same moment, the result is whether `a` comes
-- before `b` by cost and then by face.
abbrev pub is_staler : ByFace → Hop → Hop → Bool
is_staler asked a b =
    let s = unwrap_or (map.get asked a.face) 0 in
    let t = unwrap_or (map.get asked b.face) 0 in
    nat_lt s t || ((s == t) && is_before a b)

abbrev pub lesser : (Hop → Hop → Bool) → Hop → Option Hop → Hop
lesser before hop None = hop
lesser before hop (Some other) = if before other hop then other else hop

-- the first hop in the order `before`, or None if there are no hops
abbrev pub least : (Hop → Hop → Bool) → List Hop → Option Hop
least before [] = None
least before (hop ∷ hops) = Some (lesser before hop (least before hops))

-- If some face was used recently (`is_recent`), best-route selects no hop. If no face was used
-- recently, best-route selects the least hop, by cost and then by face, of the hops that were never
-- used. If no face was used recently and all hops were used, best-route selects the first hop in
-- the order `is_staler`.
abbrev pub best_route : Selection
best_route hops asked now =
    if list_any (λ e. is_recent now e.1) (map.entries asked) then [] else
    option_to_list (option_or (least is_before (filter (is_new asked) hops))
    (least (is_staler asked) hops))

abbrev pub was_recent : ℕ → Option ℕ → Bool
was_recent now None = false
was_recent now (Some time) = is_recent now time

-- all hops except those whose face was last used recently (`is_recent`)
abbrev pub multicast : Selection
multicast hops asked now = filter (λ hop. not (was_recent now (map.get asked hop.face))) hops
