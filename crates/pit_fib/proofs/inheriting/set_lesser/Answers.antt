use Rattle.std.proofs.Common.{◌≡◌, sym, ap, ◌∙◌}
use Rattle.std.specs.FinMap.{get}
use Rattle.pit_fib.specs.Effective.{lesser}
use Rattle.pit_fib.specs.Within.{set_within}
use Rattle.pit_fib.proofs.Within.{set_is}
use Rattle.pit_fib.proofs.inheriting.set_lesser.Goals as goal
use Rattle.pit_fib.proofs.inheriting.set_lesser.Goals.{in-None, in-Some}

least : (c : goal.After-insert) → c.match-get.lesser ≡ lesser c.args.cost (get c.args.costs.now c.args.face)
least c =
    elim c.match-get.branch [
      | in-None w ↦ w.lesser-is ∙ ap (λ o. lesser c.args.cost o) (sym w.in-None.is ∙ c.get.ensures)
      | in-Some w ↦ w.lesser-is ∙ w.min-lesser.ensures ∙ ap (λ o. lesser c.args.cost o) (sym w.in-Some.is ∙ c.get.ensures)
    ]

pub returns : goal.returns
returns c =
    set_is c.insert.result c.args.costs.now c.insert.new.self c.args.face c.match-get.lesser c.insert.ensures.taken c.insert.ensures.ok (λ e. (c.insert.ensures.full e).0)
    ∙ ap (λ n. set_within c.args.costs.now c.args.face n) (least c)
