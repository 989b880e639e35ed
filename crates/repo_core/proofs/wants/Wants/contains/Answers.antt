use Rattle.std.proofs.Common.{ap, sym, ◌∙◌}
use Rattle.std.specs.Prelude.{is_some}
use Rattle.std.specs.FinMap.{contains_key, get-from_sorted}
use Rattle.ndn_names.specs.View.{components}
use Rattle.repo_core.specs.Wants.{WantKey, want_cmp, want_cmp-total, want_cmp-antisymmetric}
use Rattle.repo_core.proofs.Places.{find_at}
use Rattle.repo_core.proofs.wants.Wants.contains.Goals as goal

pub returns : goal.returns
returns c =
    let key : WantKey = (components c.args.name, c.args.can_be_prefix) in
    let rows = c.self.inside.rows.items in
    let place = rw c.deref.ensures.value at c.place_of-at.ensures in
    let has = rw c.deref-2.ensures.value at c.has_at.ensures in
    find_at want_cmp-total want_cmp-antisymmetric key rows c.place_of-at.result place c.has_at.result c.self.invariant.0 has
    ∙ ap is_some (sym (get-from_sorted want_cmp rows key c.self.invariant.0))
    ∙ ap (λ t. contains_key t key) c.self.view_is
