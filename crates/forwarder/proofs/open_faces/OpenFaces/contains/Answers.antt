use Rattle.std.proofs.Common.{sym, ap, ◌∙◌}
use Rattle.forwarder.specs.OpenFaces.{is_open}
use Rattle.forwarder.proofs.Openness.{open_in_entries}
use Rattle.forwarder.proofs.open_faces.OpenFaces.contains.Goals as goal

pub returns : goal.returns
returns c =
    c.contains.ensures ∙ sym (open_in_entries c.args.face c.self.inside.all c.self.inside.local)
    ∙ ap (is_open c.args.face) c.self.view_is
