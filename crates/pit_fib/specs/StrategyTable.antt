-- Strategies by name (NFD Developer's Guide, "Strategy Choice Table").
use Rattle.std.specs.Prelude.{◌≡◌, Bool, true, false, List, [], ◌∷◌, refl, if◌then◌else◌}
use Rattle.std.specs.Coded.{Coded, code_by, coded_bool}
use Rattle.std.specs.FinMap as map
use Rattle.ndn_tlv.specs.Element.{Field}
use Rattle.pit_fib.specs.declared.strategy_table.StrategyId.{StrategyId}
use Rattle.pit_fib.specs.declared.strategy_table.StrategyId.TheVariants.{BestRoute, Multicast}
use Rattle.name_trie.specs.ByName.{ByName}

abbrev pub Choices : Type 0
Choices = ByName StrategyId

-- a new table, which has only best-route at `/`
abbrev pub only_best_route : Choices
only_best_route = map.insert map.empty [] BestRoute

-- the table without the strategy of a name; the strategy of `/` stays
abbrev pub without_choice : {X : Type 0} → ByName X → List Field → ByName X
without_choice choices [] = choices
without_choice choices (c ∷ name) = map.remove choices (c ∷ name)

-- whether the strategy is multicast; `strategy_code` encodes a strategy as this Boolean
abbrev pub is_multicast : StrategyId → Bool
is_multicast BestRoute = false
is_multicast Multicast = true

abbrev pub strategy_of : Bool → StrategyId
strategy_of b = if b then Multicast else BestRoute

pub strategy_of_itself : (s : StrategyId) → strategy_of (is_multicast s) ≡ s
strategy_of_itself BestRoute = refl
strategy_of_itself Multicast = refl

abbrev pub strategy_code : Coded StrategyId
strategy_code = code_by Bool coded_bool is_multicast strategy_of strategy_of_itself
