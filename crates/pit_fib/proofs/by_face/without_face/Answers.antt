use Rattle.std.proofs.Common.{◌≡◌, ◌<◌, get_or, length, arith}
use Rattle.std.proofs.lemmas.List.{get_or_default}
use Rattle.std.proofs.lemmas.List.Filters.{FiltersInPlace-more_set, FiltersInPlace-more_no}
use Rattle.pit_fib.proofs.FaceTests.{other_face, same_face}
use Rattle.pit_fib.proofs.by_face.without_face.Goals as goal
use Rattle.pit_fib.proofs.by_face.without_face.Goals.{then-place-face, else-place-face}

pub loop-at-preserved : goal.loop-at-preserved
loop-at-preserved c =
    let places = c.loop-at.places in
    let at = c.loop-at.at in
    let place = get_or places at (0, 0) in
    let long = c.loop-at.invariant.long in
    let within : at < length places = omega (arith, long, c.requires, c.loop-at-test.true) in
    let is : place ≡ get_or places at place = get_or_default places at (0, 0) place within in
    elim c.if-place-face.branch [
      | then-place-face w ↦ rw (w.places-is, w.kept-is) (FiltersInPlace-more_set c.loop-at.invariant within (other_face place.0 c.args.face w.if-place-face.true) is)
      | else-place-face w ↦ rw (w.places-is, w.kept-is) (FiltersInPlace-more_no c.loop-at.invariant within (same_face place.0 c.args.face w.if-place-face.false) is)
    ]
