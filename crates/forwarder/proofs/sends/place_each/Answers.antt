use Rattle.std.proofs.Common.{sym, ◌∙◌, arith}
use Rattle.forwarder.proofs.Outboxes.{one_more_placed, slice_get-there}
use Rattle.forwarder.proofs.sends.place_each.Goals as goal
use Rattle.forwarder.proofs.sends.place_each.Goals.{in-Some+in_ok-place, in_default}

pub loop-i-preserved : goal.loop-i-preserved
loop-i-preserved c = elim c.match-get.branch [
  | in-Some+in_ok-place w ↦ rw w.places-is (record {
    items = one_more_placed c.args.places.now.items c.args.start c.args.end c.args.faces.now c.loop-i.i w.in-Some.face (sym c.get.ensures ∙ w.in-Some.is) c.loop-i.invariant.items w.place.ensures.items;
    len = omega (arith, w.place.ensures.len, c.loop-i.invariant.len);
    capacity = omega (arith, w.place.ensures.capacity, c.loop-i.invariant.capacity);
    below = omega (arith, c.loop-i-test.true);
  })
  | in_default w ↦ absurd (slice_get-there c.args.faces.now c.loop-i.i (omega (arith, c.loop-i-test.true, c.len-i-end.ensures.exact)) (sym c.get.ensures ∙ w.in_default.is))
]
