use Rattle.std.proofs.Common.{not, sym, ap, ◌∙◌}
use Rattle.std.specs.Prelude.{◌&&◌}
use Rattle.pit_fib.specs.FaceSet.{has_face}
use Rattle.forwarder.specs.OpenFaces.{find_scope}
use Rattle.forwarder.specs.Policy.{is_far_scope}
use Rattle.forwarder.proofs.Openness.{far_in_entries}
use Rattle.forwarder.proofs.open_faces.OpenFaces.is_far.Goals as goal

pub returns-then-contains : goal.returns-then-contains
returns-then-contains c =
    let all = c.self.inside.all in
    let local = c.self.inside.local in
    ap not c.contains-then-contains.ensures
    ∙ ap (λ b. b && not (has_face c.args.face local)) (sym c.if-contains.true ∙ c.contains.ensures)
    ∙ sym (far_in_entries c.args.face all local) ∙ ap (λ entries. is_far_scope (find_scope c.args.face entries)) c.self.view_is

pub returns-else-contains : goal.returns-else-contains
returns-else-contains c =
    let all = c.self.inside.all in
    let local = c.self.inside.local in
    c.if-contains.false
    ∙ ap (λ b. b && not (has_face c.args.face local)) (sym c.if-contains.false ∙ c.contains.ensures)
    ∙ sym (far_in_entries c.args.face all local) ∙ ap (λ entries. is_far_scope (find_scope c.args.face entries)) c.self.view_is
