-- Definitions for the contracts of private functions: the statuses of commands that enlarge a
-- table, and the first and the last fields of a reply.
use Rattle.std.specs.Prelude.{ℕ, List, ◌∷◌, ◌++◌, length, not, nat_lt, Option, None, Some, if◌then◌else◌}
use Rattle.std.specs.Option.{option_map}
use Rattle.ndn_tlv.specs.Element.{Field}
use Rattle.ndn_tlv.specs.Writing.{number, optional}
use Rattle.ndn_names.specs.Name.{octets_of}
use Rattle.ndn_packets.specs.declared.command_types.TheConstants.{COST, COUNT, EXPIRATION_PERIOD, FACE_ID, FLAGS, ORIGIN, STRATEGY}
use Rattle.ndn_packets.specs.declared.types.TheConstants.{NAME}
use Rattle.pit_fib.specs.declared.fib.TheConstants.{MAX_DEPTH}
use Rattle.pit_fib.specs.declared.strategy_table.StrategyId.{StrategyId}
use Rattle.pit_fib.specs.FaceSet.{has_face}
use Rattle.pit_fib.specs.declared.route.RouteKey.{RouteKey}
use Rattle.pit_fib.specs.Fib.{Routes, is_full_for_route}
use Rattle.pit_fib.specs.StrategyTable.{Choices}
use Rattle.mgmt_core.specs.declared.types.TheConstants.{FACE_NOT_OPEN, OK, PREFIX_TOO_LONG, TABLE_FULL, UNKNOWN_STRATEGY}
use Rattle.mgmt_core.specs.Reading.{PlainCommand}
use Rattle.mgmt_core.specs.Tables.{face_of, is_full, strategy_asked}
use Rattle.mgmt_core.specs.Writing.{given, strategy_value}

abbrev pub add_status : List Field → ℕ → List ℕ → Routes → ℕ
add_status name face up routes =
    if nat_lt MAX_DEPTH (length name) then PREFIX_TOO_LONG else (
    if not (has_face face up) then FACE_NOT_OPEN else (
    if is_full routes name then TABLE_FULL else
    OK))

abbrev pub register_status : List Field → RouteKey → List ℕ → Routes → ℕ
register_status name key up routes =
    if nat_lt MAX_DEPTH (length name) then PREFIX_TOO_LONG else (
    if not (has_face key.face up) then FACE_NOT_OPEN else (
    if is_full_for_route routes name key then TABLE_FULL else
    OK))

abbrev pub set_status : List Field → Option StrategyId → Choices → ℕ
set_status name None choices =
    if nat_lt MAX_DEPTH (length name) then PREFIX_TOO_LONG else UNKNOWN_STRATEGY
set_status name (Some strategy) choices =
    if nat_lt MAX_DEPTH (length name) then PREFIX_TOO_LONG else (
    if is_full choices name then TABLE_FULL else
    OK)

-- the first fields of a reply: Name, then FaceId if the command takes a FaceId, then Origin if the
-- command takes an Origin
abbrev pub about_fields : PlainCommand → ℕ → List Field
about_fields c face =
    (NAME, octets_of c.name)
    ∷ (number FACE_ID (given c FACE_ID (Some (face_of c face)))
    ++ number ORIGIN (given c ORIGIN (Some c.origin)))

-- the fields of a reply that follow Name, FaceId and Origin
abbrev pub given_fields : PlainCommand → List Field
given_fields c =
    number COST (given c COST (Some c.cost))
    ++ (number FLAGS (given c FLAGS (Some c.flags))
    ++ (number EXPIRATION_PERIOD (given c EXPIRATION_PERIOD c.expires)
    ++ (number COUNT (given c COUNT c.count)
    ++ optional STRATEGY (option_map strategy_value (given c STRATEGY (strategy_asked c))))))
