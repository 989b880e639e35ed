use Rattle.std.proofs.Common.{sym, ap, ◌∙◌}
use Rattle.forwarder.specs.OpenFaces.{numbers}
use Rattle.forwarder.proofs.Openness.{numbers_of_entries}
use Rattle.forwarder.proofs.open_faces.OpenFaces.numbers.Goals as goal

pub returns : goal.returns
returns c = sym (numbers_of_entries c.self.inside.all c.self.inside.local) ∙ ap numbers c.self.view_is
