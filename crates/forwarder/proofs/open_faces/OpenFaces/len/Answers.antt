use Rattle.std.proofs.Common.{length, sym, ap, subst, ◌∙◌}
use Rattle.pit_fib.specs.FaceSet.{IsRising}
use Rattle.forwarder.specs.OpenFaces.{FaceEntry, numbers}
use Rattle.forwarder.proofs.Openness.{numbers_of_entries, length_of_entries}
use Rattle.forwarder.proofs.open_faces.OpenFaces.len.Goals as goal

pub returns-clause-exact : goal.returns-clause-exact
returns-clause-exact c =
    c.len.ensures.exact ∙ sym (length_of_entries c.self.inside.all c.self.inside.local) ∙ ap (λ entries. length {A = FaceEntry} entries) c.self.view_is

pub returns-clause-rising : goal.returns-clause-rising
returns-clause-rising c =
    subst IsRising (sym (numbers_of_entries c.self.inside.all c.self.inside.local) ∙ ap numbers c.self.view_is) c.len.ensures.rising
