-- The registered route of one name, one face and one origin, as the events and answers of a run
-- determine it (NFD Management, "RIB Management").
use Rattle.std.specs.Prelude.{ℕ, List, Bool, Option, None, Some, Result, Ok, Err, max, option_and_then, ◌==◌, ◌&&◌, if◌then◌else◌}
use Rattle.std.specs.Option.{option_map}
use Rattle.ndn_tlv.specs.Element.{Field}
use Rattle.pit_fib.specs.Route.{until_due}
use Rattle.pit_fib.specs.declared.route.Route.{Route}
use Rattle.mgmt_core.specs.declared.action.Action.TheVariants.{Register, Unregister}
use Rattle.mgmt_core.specs.declared.types.TheConstants.{OK}
use Rattle.mgmt_core.specs.Reading.{PlainCommand, command_at}
use Rattle.forwarder.specs.Causes.{deadline}
use Rattle.forwarder.specs.Event.{moment}
use Rattle.forwarder.specs.Hops.{names_hop}
use Rattle.forwarder.specs.Outcome.{Outcome, Nothing, InterestPassed, CommandAllowed, DataCame, NackPassed, FaceClosed, outcome_of}
use Rattle.forwarder.specs.Runs.{Run, Start, Then, now_of}

-- Whether a command that came from the face `from` is about the route of this name, face and
-- origin. Without a FaceId, or with the FaceId 0, the command is about the face `from`.
abbrev pub names_route : PlainCommand → ℕ → List Field → ℕ → ℕ → Bool
names_route c from name face origin = names_hop c from name face && (origin == c.origin)

-- The route after a command with status 200 at the moment `now`. A register for this route sets the
-- cost, the flags and the deadline of the route. The deadline is `now` plus the command's period,
-- at most the greatest u64, or None if the command has no period. An unregister for this route
-- removes it. Any other command changes nothing.
abbrev pub route_after_command : Result PlainCommand ℕ → ℕ → ℕ → List Field → ℕ → ℕ
    → Option Route → Option Route
route_after_command (Err status) now from name face origin was = was
route_after_command (Ok c) now from name face origin was =
    elim c.action [
      | Register ↦ if names_route c from name face origin then Some (record {
        cost = c.cost;
        flags = c.flags;
        deadline = option_map (deadline now) c.expires;
      }) else was
      | Unregister ↦ if names_route c from name face origin then None else was
      | _ ↦ was
    ]

-- The route after an outcome at the moment `now`. None means that the route does not exist. An
-- allowed command can change the route only if the command's status is 200. When a face closes, its
-- routes are removed.
abbrev pub route_after : Outcome → ℕ → List Field → ℕ → ℕ → Option Route → Option Route
route_after Nothing now name face origin was = was
route_after (InterestPassed from whole i) now name face origin was = was
route_after (CommandAllowed from i status) now name face origin was =
    if status == OK then route_after_command (command_at i.name) now from name face origin was
    else was
route_after (DataCame whole d) now name face origin was = was
route_after (NackPassed from reason i) now name face origin was = was
route_after (FaceClosed closed) now name face origin was = if face == closed then None else was

-- The route that was set by the last register of this name, face and origin with status 200. The
-- result is None if there was no such register, or if the route has ended since. A route ends by an
-- unregister with status 200, by the closing of its face, or because the node's time at a later
-- event is at or after the route's deadline.
abbrev pub route_of : Run → List Field → ℕ → ℕ → Option Route
route_of Start name face origin = None
route_of (Then before event answer) name face origin =
    let now = max (now_of before) (moment event) in
    route_after (outcome_of event answer.verdict) now name face origin
    (option_and_then (until_due now) (route_of before name face origin))
