use Rattle.std.proofs.Common.{◌≡◌, refl, arith}
use Rattle.pit_fib.proofs.RecordTallies.{eqb_one, found_at, found_end}
use Rattle.pit_fib.specs.Laws.{at_most}
use Rattle.pit_fib.proofs.record_tally.raise_each.Goals as goal

pub loop-row-init : goal.loop-row-init
loop-row-init g c = record { positive = c.requires.positive; left = λ f. refl }

pub raise_face-requires-clause-positive : goal.raise_face-requires-clause-positive
raise_face-requires-clause-positive g c = c.loop-row.invariant.positive

pub raise_face-requires-clause-small : goal.raise_face-requires-clause-small
raise_face-requires-clause-small g c =
    let at = found_at c.args.rows.now c.loop-row.row-index c.row-item.result c.loop-row-test.true c.row-item.is c.requires.sorted c.row-item.result.0 in
    let one = eqb_one c.row-item.result.0 in
    let left = c.loop-row.invariant.left c.row-item.result.0 in
    let small = c.requires.small c.row-item.result.0 in
    omega (arith, at, one, left, small)

pub raise_face-requires-clause-room : goal.raise_face-requires-clause-room
raise_face-requires-clause-room g c =
    at_most (λ f more.
    let at = found_at c.args.rows.now c.loop-row.row-index c.row-item.result c.loop-row-test.true c.row-item.is c.requires.sorted f in
    let left = c.loop-row.invariant.left f in
    omega (arith, at, left, more)) c.requires.room

pub loop-row-preserved : goal.loop-row-preserved
loop-row-preserved g c = record {
  positive = c.raise_face.ensures.positive;
  left = λ f.
      let at = found_at c.args.rows.now c.loop-row.row-index c.row-item.result c.loop-row-test.true c.row-item.is c.requires.sorted f in
      let left = c.loop-row.invariant.left f in
      let raised = c.raise_face.ensures.raised f in
      omega (arith, at, left, raised);
}

pub returns-clause-positive : goal.returns-clause-positive
returns-clause-positive g c = c.loop-row.invariant.positive

pub returns-clause-raised : goal.returns-clause-raised
returns-clause-raised g c = λ f.
    let end = found_end c.args.rows.now c.loop-row.row-index c.loop-row-test.false f in
    let left = c.loop-row.invariant.left f in
    omega (arith, end, left)
