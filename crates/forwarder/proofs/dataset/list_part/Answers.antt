use Rattle.std.proofs.Common.{◌≡◌, ◌≤◌, ℕ, List, length, Global, Result, Ok, Err, Vec, sym, ap, ◌∙◌, arith}
use Rattle.std.specs.Prelude.{IfOk, IfSome, Option, None, Some, flat_map}
use Rattle.std.specs.Option.{option_map}
use Rattle.ndn_tlv.specs.declared.memory.Memory.{Memory}
use Rattle.pit_fib.specs.Effective.{listed}
use Rattle.pit_fib.specs.Fib.{Routes, left_at}
use Rattle.pit_fib.specs.StrategyTable.{Choices}
use Rattle.mgmt_core.specs.Writing.{fib_text, route_text, segment_at, strategy_text}
use Rattle.forwarder.specs.Datasets.{dataset_text}
use Rattle.forwarder.specs.Policy.{Policy}
use Rattle.forwarder.specs.Request.{ListKind, RouteList}
use Rattle.forwarder.proofs.LeftRoutes.{left_twice}
use Rattle.forwarder.proofs.ReplyLengths.{segment_at_len}
use Rattle.forwarder.proofs.dataset.list_part.Goals as goal

-- Let `made` be a segment of the route list, made from all of `routes` at the time `now`. Then
-- `made` is also the segment for each policy whose time is `now`, whose routes are what remains of
-- `routes` at `now`, and whose strategies are `choices`.
made_of_left : (now number : ℕ) (routes : Routes) (choices : Choices) (kind : ListKind) (made : Result (Option (Vec ℕ Global × ℕ)) Memory) → kind ≡ RouteList
    → IfOk made (λ part. option_map (λ s. (s.0.items, s.1)) part ≡ segment_at (fib_text now routes) number)
    → IfOk made (λ part. (p : Policy) → p.now ≡ now → p.routes ≡ left_at now routes → p.choices ≡ choices
    → option_map (λ s. (s.0.items, s.1)) part ≡ segment_at (dataset_text p kind) number)
made_of_left now number routes choices kind (Ok part) is written = λ p at left same.
    written
    ∙ ap (λ text. segment_at text number)
    (ap (λ (r : Routes). flat_map route_text (listed r)) (sym (left_twice now now routes (omega arith)))
    ∙ (λ i. fib_text (sym at i) (sym left i)) ∙ ap (dataset_text p) (sym is))
made_of_left now number routes choices kind (Err memory) is written = tt

-- a segment contains at most 4,096 octets of the list
short_part : (made : Result (Option (Vec ℕ Global × ℕ)) Memory) (text : List ℕ) (number : ℕ) → IfOk made (λ part. option_map (λ s. (s.0.items, s.1)) part ≡ segment_at text number)
    → IfOk made (λ part. IfSome part (λ s. length s.0.items ≤ 4096))
short_part (Ok None) text number is = tt
short_part (Ok (Some s)) text number is = segment_at_len text number (s.0.items, s.1) (sym is)
short_part (Err memory) text number is = tt

pub returns-in-RouteList-clause-short : goal.returns-in-RouteList-clause-short
returns-in-RouteList-clause-short c =
    short_part c.fib_segment.result (fib_text c.args.now c.args.tables.now.fib.table) c.args.asked.segment c.fib_segment.ensures

pub returns-in-StrategyList-clause-short : goal.returns-in-StrategyList-clause-short
returns-in-StrategyList-clause-short c =
    short_part c.strategy_segment.result (strategy_text c.args.tables.now.strategies.table) c.args.asked.segment c.strategy_segment.ensures

pub returns-in-RouteList-clause-part : goal.returns-in-RouteList-clause-part
returns-in-RouteList-clause-part c =
    made_of_left c.args.now c.args.asked.segment c.args.tables.now.fib.table c.args.tables.now.strategies.table c.args.asked.kind c.fib_segment.result c.in-RouteList.is c.fib_segment.ensures
