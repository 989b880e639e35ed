use Rattle.std.proofs.Common.{◌<◌, ◌≤◌, get_or, length, ap, sym, ◌∙◌, arith}
use Rattle.std.proofs.lemmas.List.{take_all}
use Rattle.pit_fib.specs.Hops.{in_order, with_hop, unmarked_hop}
use Rattle.pit_fib.proofs.OrderedHops.{ordered_more, length-ordered}
use Rattle.pit_fib.proofs.hops.hops_in_order.Goals as goal

pub insert-requires : goal.insert-requires
insert-requires c =
    let few : length c.loop-place.hops ≤ c.loop-place.place-index = c.loop-place.invariant.1 in
    let lt : c.loop-place.place-index < length c.args.costs.now = c.loop-place-test.true in
    let small : length c.args.costs.now ≤ 64 = c.requires in
    omega arith

pub loop-place-init : goal.loop-place-init
loop-place-init c = (c.new-hops.ensures, omega (arith, ap length c.new-hops.ensures))

pub loop-place-preserved : goal.loop-place-preserved
loop-place-preserved c = (
  c.insert.ensures ∙ ap (with_hop (unmarked_hop (get_or c.args.costs.now c.loop-place.place-index (0, 0)))) c.loop-place.invariant.0
      ∙ sym (ordered_more c.args.costs.now c.loop-place.place-index (0, 0) c.loop-place-test.true),
  length-ordered _ c.loop-place.hops c.insert.new.self c.loop-place.place-index c.insert.ensures c.loop-place.invariant.1,
)

pub returns : goal.returns
returns c = c.loop-place.invariant.0 ∙ ap in_order (take_all c.loop-place.place-index c.args.costs.now c.loop-place-test.false)
