use Rattle.std.proofs.Common.{sym, ap, ◌∙◌}
use Rattle.std.specs.Prelude.{filter}
use Rattle.forwarder.specs.OpenFaces.{numbers}
use Rattle.forwarder.specs.Policy.{is_local_scope}
use Rattle.forwarder.proofs.Openness.{locals_in_entries}
use Rattle.forwarder.proofs.open_faces.OpenFaces.locals.Goals as goal

pub returns : goal.returns
returns c =
    let local = c.self.inside.local in
    c.self.invariant.0 ∙ sym (locals_in_entries c.self.inside.all local)
    ∙ ap (λ entries. numbers (filter (λ entry. is_local_scope entry.1) entries)) c.self.view_is
