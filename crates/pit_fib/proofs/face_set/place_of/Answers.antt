use Rattle.std.proofs.Common.{◌≡◌, get_or, arith}
use Rattle.std.proofs.lemmas.List.{get_or_default}
use Rattle.pit_fib.proofs.RisingFaces.{face_absent, face_gap, end_absent, end_gap}
use Rattle.pit_fib.proofs.face_set.place_of.Goals as goal

pub returns-then-face-other-clause-absent : goal.returns-then-face-other-clause-absent
returns-then-face-other-clause-absent c =
    let faces = c.args.faces.now in
    let other = get_or faces c.loop-at.at 0 in
    let is : other ≡ get_or faces c.loop-at.at other = get_or_default faces c.loop-at.at 0 other c.loop-at-test.true in (
      omega arith,
      face_absent c.args.face faces c.loop-at.at other c.loop-at-test.true is c.loop-at.invariant c.if-face-other.true c.requires,
      face_gap c.args.face faces c.loop-at.at other c.loop-at-test.true is c.loop-at.invariant c.if-face-other.true,
    )

pub returns-clause-absent : goal.returns-clause-absent
returns-clause-absent c = (
  omega arith,
  end_absent c.args.face c.args.faces.now c.loop-at.at c.loop-at-test.false c.loop-at.invariant,
  end_gap c.args.face c.args.faces.now c.loop-at.at c.loop-at-test.false c.loop-at.invariant,
)
