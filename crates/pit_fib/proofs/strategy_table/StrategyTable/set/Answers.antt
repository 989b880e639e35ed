use Rattle.std.proofs.Common.{◌^◌, ◌≡◌, ◌⊎◌, inl, inr, ◌+◌, ◌<◌, cond, [], refl, sym, ap, subst, ◌∙◌, arith}
use Rattle.std.specs.Prelude.{None, IsSome, is_some}
use Rattle.std.specs.FinMap.{get, insert, len, len-insert}
use Rattle.ndn_names.specs.Key.{name_cmp-total}
use Rattle.name_trie.specs.ByName.{ByName}
use Rattle.pit_fib.specs.Refusal.{refusal}
use Rattle.pit_fib.specs.declared.strategy_table.StrategyId.{StrategyId}
use Rattle.ndn_names.specs.View.{components}
use Rattle.pit_fib.specs.Limits.{IsWithinLimits}
use Rattle.pit_fib.proofs.Limits.{limits_insert}
use Rattle.pit_fib.proofs.Refusals.{room_if_taken, shallow_if_taken}
use Rattle.pit_fib.proofs.RootChoice.{known_apart, root_known, root_set, other_set, set_apart}
use Rattle.pit_fib.proofs.strategy_table.StrategyTable.set.Goals as goal
use Rattle.pit_fib.proofs.strategy_table.StrategyTable.set.Goals.{After-put}

named : (c : After-put) → components c.args.name ≡ [] → ⊥
named c e = let empty = c.is_empty.ensures.1 e in let some = c.if-is_empty.false in cc

pub invariant_of-self-in-Continue-1 : goal.invariant_of-self-in-Continue-1
invariant_of-self-in-Continue-1 c =
    let others = c.self.inside.others.table in
    let root = c.self.inside.root in
    let name = components c.args.name in
    let some = named (goal.at.invariant_of-self-in-Continue-1 c).After-put in
    let table : insert others [] root ≡ c.args.self.now.table = ap (λ t. t.table) c.self.view_is in
    let none : refusal (insert others [] root) name ≡ None = ap (λ (t : ByName StrategyId). refusal t name) table ∙ sym c.in_default.ensures in (
      ap (λ t. get t []) c.in_ok-put.ensures.ok ∙ set_apart others root c.args.strategy name some c.self.invariant.0,
      subst (λ (t : ByName StrategyId). IsWithinLimits t)
          (sym (ap (λ t. insert t [] root) c.in_ok-put.ensures.ok ∙ other_set others root c.args.strategy name some))
          (limits_insert (insert others [] root) c.self.invariant.1 name c.args.strategy (shallow_if_taken (insert others [] root) name none) (room_if_taken (insert others [] root) name none)),
    )

pub returns-in_err-put-clause-known : goal.returns-in_err-put-clause-known
returns-in_err-put-clause-known c = λ some.
    let name = components c.args.name in
    let apart = known_apart c.self.inside.others.table c.self.inside.root name (named (goal.at.returns-in_err-put-clause-known c).After-put) in
    let never = c.in_err-put.ensures.known (subst IsSome (sym (ap (λ t. get t.table name) c.self.view_is) ∙ apart) some) in cc

pub returns-then-is_empty-clause-ok : goal.returns-then-is_empty-clause-ok
returns-then-is_empty-clause-ok c =
    ap (λ t. insert t [] c.args.strategy) c.forget_prepared-then-is_empty.ensures.table
    ∙ root_set c.self.inside.others.table c.self.inside.root c.args.strategy
    ∙ ap (λ t. insert t.table [] c.args.strategy) c.self.view_is
    ∙ ap (λ n. insert c.args.self.now.table n c.args.strategy) (sym (c.is_empty.ensures.0 c.if-is_empty.true))

pub returns-in_ok-put-clause-ok : goal.returns-in_ok-put-clause-ok
returns-in_ok-put-clause-ok c =
    let name = components c.args.name in
    ap (λ t. insert t [] c.self.inside.root) c.in_ok-put.ensures.ok
    ∙ other_set c.self.inside.others.table c.self.inside.root c.args.strategy name (named (goal.at.returns-in_ok-put-clause-ok c).After-put)
    ∙ ap (λ t. insert t.table name c.args.strategy) c.self.view_is

named_there : (c : goal.After-put-arg-1) → components c.args.name ≡ [] → ⊥
named_there c e = let empty = c.is_empty.ensures.1 e in let some = c.if-is_empty.false in cc

pub put-requires : goal.put-requires
put-requires c =
    let others = c.self.inside.others.table in
    let root = c.self.inside.root in
    let name = components c.args.name in
    let table : insert others [] root ≡ c.args.self.now.table = ap (λ t. t.table) c.self.view_is in
    let none : refusal (insert others [] root) name ≡ None = ap (λ (t : ByName StrategyId). refusal t name) table ∙ sym c.in_default.ensures in
    let apart = known_apart others root name (named_there c) in
    let fewer : len (insert others [] root) ≡ len others + 1 = len-insert name_cmp-total others [] root ∙ ap (λ o. cond (is_some o) (len others) (len others + 1)) c.self.invariant.0 in
    elim (room_if_taken (insert others [] root) name none) as (λ _. IsSome (get others name) ⊎ (len others + 1 < 2 ^ 64)) [
      | (inl some) ↦ inl (subst IsSome apart some)
      | (inr room) ↦ inr (omega (arith, room, fewer))
    ]

pub invariant_of-self-then-is_empty : goal.invariant_of-self-then-is_empty
invariant_of-self-then-is_empty c =
    let others = c.self.inside.others.table in
    let root = c.self.inside.root in (
      ap (λ t. get t []) c.forget_prepared-then-is_empty.ensures.table ∙ c.self.invariant.0,
      subst (λ (t : ByName StrategyId). IsWithinLimits t)
          (sym (ap (λ t. insert t [] c.args.strategy) c.forget_prepared-then-is_empty.ensures.table ∙ root_set others root c.args.strategy))
          (limits_insert (insert others [] root) c.self.invariant.1 [] c.args.strategy (omega arith) (inl (root_known others root [] refl))),
    )
