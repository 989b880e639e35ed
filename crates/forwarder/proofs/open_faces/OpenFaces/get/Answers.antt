use Rattle.std.proofs.Common.{sym, ap, ◌∙◌}
use Rattle.std.specs.Prelude.{slice_get}
use Rattle.forwarder.specs.OpenFaces.{numbers}
use Rattle.forwarder.proofs.Openness.{numbers_of_entries}
use Rattle.forwarder.proofs.open_faces.OpenFaces.get.Goals as goal

pub returns : goal.returns
returns c =
    c.get.ensures ∙ ap (λ faces. slice_get faces c.args.i) (sym (numbers_of_entries c.self.inside.all c.self.inside.local) ∙ ap numbers c.self.view_is)
