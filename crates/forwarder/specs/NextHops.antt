-- Where Interests are sent: the strategy of the name chooses among the next hops of the longest
-- prefix match (NFD Developer's Guide, "Strategies", "Outgoing Interest Pipeline").
use Rattle.std.specs.Prelude.{ℕ, ◌-◌, List, Bool, false, Option, None, Some, unwrap_or, ◌==◌}
use Rattle.ndn_tlv.specs.Element.{Field}
use Rattle.ndn_packets.specs.HopLimit.{with_octet}
use Rattle.ndn_packets.specs.Packet.{PlainInterest}
use Rattle.pit_fib.specs.declared.hops.Hop.{Hop}
use Rattle.pit_fib.specs.declared.strategy_table.StrategyId.{StrategyId}
use Rattle.pit_fib.specs.declared.strategy_table.StrategyId.TheVariants.{BestRoute, Multicast}
use Rattle.pit_fib.specs.Effective.{longest_hops}
use Rattle.pit_fib.specs.Hops.{marked}
use Rattle.pit_fib.specs.Tables.{ByFace}
use Rattle.pit_fib.specs.ByName.{longest}
use Rattle.strategies.specs.declared.strategy.Ask.{Ask}
use Rattle.strategies.specs.declared.strategy.Choice.{Choice}
use Rattle.strategies.specs.Choice.{chosen}
use Rattle.strategies.specs.Selection.{Selection, best_route, multicast}
use Rattle.forwarder.specs.Policy.{Policy, local_faces}
use Rattle.forwarder.specs.Request.{is_local_name}

abbrev pub selection_of : StrategyId → Selection
selection_of BestRoute = best_route
selection_of Multicast = multicast

-- The strategy of a name. Among the prefixes of the name, the longest that has a strategy decides.
-- If no prefix has a strategy, the result is BestRoute. In every node, the prefix `/` has a
-- strategy.
abbrev pub strategy_for : Policy → List Field → StrategyId
strategy_for p name = unwrap_or (longest p.choices name) BestRoute

-- the effective next hops for a name, with the hops to Local faces marked; among the prefixes of
-- the name that have next hops or routes, the longest decides; no next hops if there is no such
-- prefix
abbrev pub hops_for : Policy → List Field → List Hop
hops_for p name = marked (local_faces p) (longest_hops p.routes name)

-- the choice of the name's strategy for an Interest of this name; `asked` has, for each face with
-- an out-record of this Interest's PIT key, the moment at which an Interest of this key was last
-- sent to the face; for the node's own Interests, `asked` is empty
abbrev pub choice_for : Policy → List Field → ByFace → Ask → Choice
choice_for p name asked ask =
    chosen (selection_of (strategy_for p name)) (hops_for p name) asked ask

-- whether there is a HopLimit that becomes 0 when it is decremented
abbrev pub is_last_hop : Option ℕ → Bool
is_last_hop None = false
is_last_hop (Some limit) = limit == 1

-- the input of the strategy for an Interest that came on `face`
abbrev pub ask_from : Policy → ℕ → PlainInterest → Ask
ask_from p face i = record {
  asker = Some face;
  localhost = is_local_name i.name;
  hop_zero = is_last_hop i.hop_limit;
  now = p.now;
}

-- the input of the strategy for an Interest of this name that the node itself makes
abbrev pub ask_for : Policy → List Field → Ask
ask_for p name = record {
  asker = None;
  localhost = is_local_name name;
  hop_zero = false;
  now = p.now;
}

-- the octets that are sent on for an Interest with the octets `whole`: the HopLimit, if there is
-- one, is decremented, and nothing else changes
abbrev pub sent_on : List ℕ → Option ℕ → List ℕ
sent_on whole None = whole
sent_on whole (Some limit) = with_octet whole (limit - 1)
