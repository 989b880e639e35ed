use Rattle.std.proofs.Common.{length, ap, sym, ◌∙◌}
use Rattle.std.specs.FinMap.{entries, entries-from_sorted}
use Rattle.ndn_names.specs.Order.{name_cmp}
use Rattle.ndn_names.specs.View.{components}
use Rattle.repo_core.specs.Objects.{answering}
use Rattle.repo_core.proofs.objects.Objects.number.Goals as goal

pub returns : goal.returns
returns c =
    let part = answering (components c.args.name) c.args.can_be_prefix in
    c.count_of.ensures
    ∙ ap length (c.candidates.ensures.same
    ∙ ap part (c.deref.ensures.value ∙ sym (entries-from_sorted name_cmp c.self.inside.rows.items c.self.invariant) ∙ ap (λ t. entries t.table) c.self.view_is))
