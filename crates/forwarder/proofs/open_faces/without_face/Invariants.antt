use Rattle.std.proofs.Common.{◌≡◌, take}
use Rattle.std.specs.Prelude.{filter, not, ◌==◌}
use Rattle.forwarder.proofs.open_faces.without_face.Given as goal

-- `rest` are the faces before index `i`, without `face`
abbrev pub invariant-loop-i : goal.invariant-loop-i
invariant-loop-i l = l.rest ≡ filter (λ f. not (f == l.face)) (take l.i l.faces)
