use Rattle.std.proofs.Common.{ap, ◌∙◌}
use Rattle.std.specs.FinMap.{from_sorted}
use Rattle.ndn_names.specs.Order.{name_cmp}
use Rattle.ndn_names.proofs.Rows.{from_none}
use Rattle.repo_core.proofs.objects.Objects.new.Goals as goal

pub returns : goal.returns
returns c = ap (λ es. from_sorted {R = name_cmp} es) c.new.ensures.items ∙ from_none name_cmp
