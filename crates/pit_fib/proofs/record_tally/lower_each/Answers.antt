use Rattle.std.proofs.Common.{◌≡◌, refl, arith}
use Rattle.pit_fib.proofs.RecordTallies.{eqb_one, found_at, found_end}
use Rattle.pit_fib.proofs.record_tally.lower_each.Goals as goal

pub loop-row-init : goal.loop-row-init
loop-row-init g c = record { positive = c.requires.positive; left = λ f. refl }

pub lower_face-requires-clause-positive : goal.lower_face-requires-clause-positive
lower_face-requires-clause-positive g c = c.loop-row.invariant.positive

pub lower_face-requires-clause-some : goal.lower_face-requires-clause-some
lower_face-requires-clause-some g c =
    let at = found_at c.args.rows.now c.loop-row.row-index c.row-item.result c.loop-row-test.true c.row-item.is c.requires.sorted c.row-item.result.0 in
    let one = eqb_one c.row-item.result.0 in
    let left = c.loop-row.invariant.left c.row-item.result.0 in
    let some = c.requires.some c.row-item.result.0 in
    omega (arith, at, one, left, some)

pub loop-row-preserved : goal.loop-row-preserved
loop-row-preserved g c = record {
  positive = c.lower_face.ensures.positive;
  left = λ f.
      let at = found_at c.args.rows.now c.loop-row.row-index c.row-item.result c.loop-row-test.true c.row-item.is c.requires.sorted f in
      let left = c.loop-row.invariant.left f in
      let lowered = c.lower_face.ensures.lowered f in
      omega (arith, at, left, lowered);
}

pub returns-clause-positive : goal.returns-clause-positive
returns-clause-positive g c = c.loop-row.invariant.positive

pub returns-clause-lowered : goal.returns-clause-lowered
returns-clause-lowered g c = λ f.
    let end = found_end c.args.rows.now c.loop-row.row-index c.loop-row-test.false f in
    let left = c.loop-row.invariant.left f in
    omega (arith, end, left)
