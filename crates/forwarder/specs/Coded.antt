-- How the maps in a node's state (routes, strategies, replay guard and pending Interests) are
-- encoded, so that the state is plain data.
use Rattle.std.specs.Coded.{Coded}
use Rattle.std.specs.FinMap as map
use Rattle.ndn_packets.specs.Key.{key_code}
use Rattle.pit_fib.specs.Fib.{Routes, entry_code}
use Rattle.ndn_names.specs.Key.{name_code}
use Rattle.pit_fib.specs.Records.{Pending, records_code}
use Rattle.pit_fib.specs.StrategyTable.{Choices, strategy_code}
use Rattle.replay_guard.specs.Guard.{Table, signer_code, latest_code}

abbrev pub routes_code : Coded Routes
routes_code = map.code name_code entry_code

abbrev pub choices_code : Coded Choices
choices_code = map.code name_code strategy_code

abbrev pub guard_code : Coded Table
guard_code = map.code signer_code latest_code

abbrev pub pending_code : Coded Pending
pending_code = map.code key_code records_code
