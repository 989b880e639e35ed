-- The names of strategies, as octets.
use Rattle.std.proofs.Common.{◌≡◌, ℕ, ◌<◌, List, length, drop, refl, sym, ap, ◌∙◌, arith}
use Rattle.std.specs.Prelude.{bytes_eq, codes}
use Rattle.std.specs.Ordering.{is_eq}
use Rattle.std.proofs.lemmas.Map.Text.{is_eq-slice_cmp}
use Rattle.ndn_tlv.specs.Number.{spelling}
use Rattle.ndn_tlv.specs.Element.{Field, IsField}
use Rattle.ndn_names.specs.Name.{IsComponent, IsNameValue, octets_of}
use Rattle.ndn_names.proofs.OctetOrder.{values_cmp}
use Rattle.pit_fib.specs.declared.strategy_table.StrategyId.{StrategyId}
use Rattle.pit_fib.specs.declared.strategy_table.StrategyId.TheVariants.{BestRoute, Multicast}
use Rattle.mgmt_core.specs.Tables.{generic, strategy_name, strategy_word, is_strategy}
use Rattle.mgmt_core.specs.Writing.{strategy_value}

is_short : (word : List ℕ) → length word < 100 → IsField (generic word) × IsComponent (generic word)
is_short word lt = ((omega arith, omega arith, omega arith), (omega arith, omega arith, λ le. absurd (omega (arith, le))))

word_is_short : (s : StrategyId) → length (strategy_word s) < 100
word_is_short BestRoute = omega arith
word_is_short Multicast = omega arith

pub strategy_is_name : (s : StrategyId) → IsNameValue (octets_of (strategy_name s)) (strategy_name s)
strategy_is_name s =
    let a = is_short (codes "localhost") (omega arith) in
    let b = is_short (codes "nfd") (omega arith) in
    let d = is_short (codes "strategy") (omega arith) in
    let e = is_short (strategy_word s) (word_is_short s) in
    (((a.0, (b.0, (d.0, (e.0, tt)))), refl), (omega arith, (a.1, (b.1, (d.1, (e.1, tt))))))

pub same_octets : (octets : List ℕ) (name : List Field) (s : StrategyId) → IsNameValue octets name
    → bytes_eq octets (octets_of (strategy_name s)) ≡ is_strategy name s
same_octets octets name s is =
    sym (is_eq-slice_cmp octets (octets_of (strategy_name s)))
    ∙ ap is_eq (values_cmp octets (octets_of (strategy_name s)) name (strategy_name s) is (strategy_is_name s))

-- the encoded name of a strategy consists of two octets, its type and its length, followed by the
-- TLV-VALUE of the name
pub value_begins : (s : StrategyId) → drop 2 (strategy_value s) ≡ octets_of (strategy_name s)
unfolding spelling
value_begins BestRoute = refl
value_begins Multicast = refl
