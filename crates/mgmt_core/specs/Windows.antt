-- One segment of a text, for the contracts of private functions. Only the segment is stored while
-- the text is written.
use Rattle.std.specs.Prelude.{ℕ, ◌+◌, ◌-◌, ◌*◌, ◌^◌, List, [], ◌∷◌, ◌++◌, length, take, drop, flat_map, min}
use Rattle.ndn_tlv.specs.Element.{element}
use Rattle.ndn_tlv.specs.Writing.{octets}
use Rattle.ndn_packets.specs.declared.command_types.TheConstants.{ENTRY, STRATEGY}
use Rattle.ndn_packets.specs.declared.types.TheConstants.{NAME}
use Rattle.pit_fib.specs.declared.hops.Hop.{Hop}
use Rattle.pit_fib.specs.declared.strategy_table.StrategyId.{StrategyId}
use Rattle.mgmt_core.specs.declared.dataset.TheConstants.{SEGMENT_LEN}
use Rattle.mgmt_core.specs.Writing.{hop_text, strategy_value}

pub record Kept : Type 0 where
  -- the number of octets before the segment
  pub from : ℕ
  -- the number of octets written so far, including the octets outside the segment
  pub len : ℕ
  -- the octets of the segment that are written so far
  pub segment : List ℕ

-- the state after the whole text is written; the segment begins at index `from` of the text
abbrev pub kept_of : ℕ → List ℕ → Kept
kept_of from text =
    record {
      from = from;
      len = length text;
      segment = take SEGMENT_LEN (drop from text);
    }

-- the state that follows the state `k` when the octets `more` are appended to the text
abbrev pub with_more : Kept → List ℕ → Kept
with_more k more =
    record {
      from = k.from;
      len = k.len + length more;
      segment = take SEGMENT_LEN (k.segment ++ drop (k.from - k.len) more);
    }

-- the number of octets before segment `number`, or 2^64 - 1 if 2^64 - 1 is less; the first segment
-- has number 0
abbrev pub start_of : ℕ → ℕ
start_of number = min (number * SEGMENT_LEN) (2 ^ 64 - 1)

-- the octets of an entry with this encoded name and these effective next hops, in the dataset of
-- routes
abbrev pub route_octets : List ℕ → List Hop → List ℕ
route_octets name hops = element (ENTRY, element (NAME, name) ++ flat_map hop_text hops)

-- the octets of an entry with this encoded name and this strategy, in the dataset of strategies
abbrev pub choice_octets : List ℕ → StrategyId → List ℕ
choice_octets name strategy =
    element (ENTRY, octets ((NAME, name) ∷ (STRATEGY, strategy_value strategy) ∷ []))

-- the state that follows the state `k` when an entry with this encoded name and these next hops is
-- appended to the text
abbrev pub with_route : Kept → List ℕ → List Hop → Kept
with_route k name hops = with_more k (route_octets name hops)

abbrev pub with_choice : Kept → List ℕ → StrategyId → Kept
with_choice k name strategy = with_more k (choice_octets name strategy)

-- the text followed by an entry of the dataset of routes with this encoded name and these next hops
abbrev pub text_with_route : List ℕ → List ℕ → List Hop → List ℕ
text_with_route text name hops = text ++ route_octets name hops

abbrev pub text_with_choice : List ℕ → List ℕ → StrategyId → List ℕ
text_with_choice text name strategy = text ++ choice_octets name strategy
