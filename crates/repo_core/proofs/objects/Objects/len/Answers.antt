use Rattle.std.proofs.Common.{◌≡◌, length, vec_len, ap, sym, ◌∙◌, rules}
use Rattle.std.specs.FinMap.{len}
use Rattle.ndn_names.specs.Order.{name_cmp}
use Rattle.ndn_names.proofs.Rows.{len-from_sorted}
use Rattle.repo_core.proofs.objects.Objects.len.Goals as goal

pub returns : goal.returns
returns c =
    let rows = c.self.inside.rows.items in
    let count : vec_len c.self.inside.rows ≡ length rows = search rules in
    c.len.ensures ∙ count ∙ sym (len-from_sorted name_cmp rows c.self.invariant) ∙ ap (λ t. len t.table) c.self.view_is
