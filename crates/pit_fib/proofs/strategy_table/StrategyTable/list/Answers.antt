use Rattle.std.proofs.Common.{◌≡◌, [], ◌∷◌, ◌++◌, List, rules, sym, ap, ◌∙◌, Bor}
use Rattle.std.proofs.lemmas.Iterator.Adapters.{YieldsList-from_vec}
use Rattle.std.proofs.lemmas.Iterator.Consumers.{YieldsList-end}
use Rattle.std.proofs.lemmas.List.{map-id}
use Rattle.std.specs.Prelude.{map}
use Rattle.std.specs.FinMap.{entries}
use Rattle.ndn_tlv.specs.Element.{Field}
use Rattle.pit_fib.specs.declared.strategy_table.StrategyId.{StrategyId}
use Rattle.pit_fib.proofs.RootChoice.{entries_with_root}
use Rattle.pit_fib.proofs.strategy_table.StrategyTable.list.Goals as goal

pub returns : goal.returns
returns c =
    let root = c.self.inside.root in
    let shown = map (λ (r : List Field × Bor StrategyId). (r.0, r.1.now)) in
    let items = c.in_ok-items.items.items in
    let turns = YieldsList-end (YieldsList-from_vec {s = c.into_iter-name-iterator.result} items (search rules) (search rules)) c.loop-name.yielded c.loop-name.name-iterator c.loop-name.yielded_by c.next.result c.next.new.self c.in-None.is c.next.ensures.steps in
    let whole : c.loop-name.yielded ≡ items = sym (map-id c.loop-name.yielded) ∙ turns.0 in
    let all : shown c.loop-name.yielded ≡ entries c.self.inside.others.table = ap shown whole ∙ c.in_ok-items.ensures in
    c.loop-name.invariant
    ∙ ap (λ l. l ++ shown c.loop-name.yielded)
    (c.in_ok-push.ensures.items ∙ ap (λ l. l ++ (c.new.result, root) ∷ []) c.new-list.ensures.items ∙ ap (λ n. (n, root) ∷ []) c.new.ensures)
    ∙ ap (λ l. ([], root) ∷ l) all
    ∙ sym (entries_with_root c.self.inside.others.table root c.self.invariant.0)
    ∙ ap (λ t. entries t.table) c.self.view_is
