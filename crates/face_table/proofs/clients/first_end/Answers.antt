use Rattle.std.proofs.Common.{arith}
use Rattle.face_table.proofs.Silent.{EndAfter-start, EndAfter-more, EndAfter-all}
use Rattle.face_table.proofs.clients.first_end.Goals as goal

pub loop-place-init : goal.loop-place-init
loop-place-init c = EndAfter-start c.args.clients.now c.args.time _

pub loop-place-preserved : goal.loop-place-preserved
loop-place-preserved c =
    let e = c.min-first.ensures in
    let s = c.saturating_add.ensures in
    EndAfter-more c.args.clients.now c.args.time c.loop-place.place c.loop-place.first c.min-first.result c.loop-place.invariant (omega (arith, e)) (omega (arith, e, s))

pub returns : goal.returns
returns c = EndAfter-all c.args.clients.now c.args.time c.loop-place.place c.loop-place.first c.loop-place.invariant (omega arith)
