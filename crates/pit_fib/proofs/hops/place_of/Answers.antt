use Rattle.std.proofs.Common.{◌≡◌, get_or, false, sym, ◌∙◌}
use Rattle.std.proofs.lemmas.List.{get_or_default}
use Rattle.pit_fib.specs.declared.hops.Hop.{Hop}
use Rattle.pit_fib.proofs.OrderedHops.{hop_gap, hop_end}
use Rattle.pit_fib.proofs.hops.place_of.Goals as goal

pub returns-then-is_before-clause-place : goal.returns-then-is_before-clause-place
returns-then-is_before-clause-place c =
    let hops = c.args.hops.now in
    let at = c.loop-at.at in
    let none : Hop = record { face = 0; cost = 0; local = false } in
    let other = get_or hops at none in
    let is : other ≡ get_or hops at other = get_or_default hops at none other c.loop-at-test.true in
    hop_gap c.args.hop hops at other c.loop-at-test.true is c.loop-at.invariant (sym c.is_before.ensures ∙ c.if-is_before.true)

pub returns-clause-place : goal.returns-clause-place
returns-clause-place c = hop_end c.args.hop c.args.hops.now c.loop-at.at c.loop-at-test.false c.loop-at.invariant
