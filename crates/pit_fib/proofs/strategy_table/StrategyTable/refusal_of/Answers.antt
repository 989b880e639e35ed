use Rattle.std.proofs.Common.{◌≡◌, ◌+◌, ◌≤◌, Bool, true, false, [], length, refl, sym, ap, subst, arith, ◌∙◌}
use Rattle.std.specs.Prelude.{Option, Some, None, is_some}
use Rattle.std.specs.Option.{option_map}
use Rattle.std.specs.FinMap.{len, contains_key}
use Rattle.ndn_names.specs.View.{components}
use Rattle.pit_fib.proofs.Refusals.{known_is_taken, full_takes_none, room_takes_any}
use Rattle.pit_fib.proofs.RootChoice.{root_known, known_apart, len_with_root}
use Rattle.pit_fib.proofs.strategy_table.StrategyTable.refusal_of.Goals as goal
use Rattle.pit_fib.proofs.strategy_table.StrategyTable.refusal_of.Goals.{After-len, After-len-2, After-is_some}

shallow : (c : After-len) → c.len.result ≤ 32 → length (components c.args.name) ≤ 32
shallow c few = subst (λ n. n ≤ 32) c.len.ensures.exact few

all_names : (c : After-len-2) → len c.args.self.now.table ≡ c.len-2.result + 1
all_names c =
    sym (ap (λ t. len t.table) c.self.view_is)
    ∙ len_with_root c.self.inside.others.table c.self.inside.root c.self.invariant.0
    ∙ ap (λ n. n + 1) (sym c.len-2.ensures)

there : {A B : Type 0} (f : A → B) (o : Option A) → is_some (option_map f o) ≡ is_some o
there f None = refl
there f (Some x) = refl

known : (c : After-is_some) (b : Bool) → c.is_some.result ≡ b → contains_key c.args.self.now.table (components c.args.name) ≡ b
known c b is =
    let name = components c.args.name in
    let named : name ≡ [] → ⊥ = λ e. let empty = c.is_empty.ensures.1 e in let some = c.if-is_empty.false in cc in
    sym (ap (λ t. contains_key t.table name) c.self.view_is)
    ∙ ap is_some (known_apart c.self.inside.others.table c.self.inside.root name named ∙ sym c.get.ensures)
    ∙ there _ c.get.result ∙ sym c.is_some.ensures ∙ is

pub returns-then-len : goal.returns-then-len
returns-then-len c =
    room_takes_any c.args.self.now.table (components c.args.name)
    (shallow (goal.at.returns-then-len c).After-len c.if-len-gt-MAX_DEPTH.false)
    (let all = all_names (goal.at.returns-then-len c).After-len-2 in let few = c.if-len.true in omega (arith, all, few))

pub returns-then-is_empty : goal.returns-then-is_empty
returns-then-is_empty c =
    let name = components c.args.name in
    known_is_taken c.args.self.now.table name
    (shallow (goal.at.returns-then-is_empty c).After-len c.if-len-gt-MAX_DEPTH.false)
    (sym (ap (λ t. contains_key t.table name) c.self.view_is)
    ∙ root_known c.self.inside.others.table c.self.inside.root name (c.is_empty.ensures.0 c.if-is_empty.true))

pub returns-then-is_some : goal.returns-then-is_some
returns-then-is_some c =
    known_is_taken c.args.self.now.table (components c.args.name)
    (shallow (goal.at.returns-then-is_some c).After-len c.if-len-gt-MAX_DEPTH.false)
    (known (goal.at.returns-then-is_some c).After-is_some true c.if-is_some.true)

pub returns : goal.returns
returns c =
    full_takes_none c.args.self.now.table (components c.args.name)
    (shallow (goal.at.returns c).After-len c.if-len-gt-MAX_DEPTH.false)
    (known (goal.at.returns c).After-is_some false c.if-is_some.false)
    (let all = all_names (goal.at.returns c).After-len-2 in let full = c.if-len.false in omega (arith, all, full))
