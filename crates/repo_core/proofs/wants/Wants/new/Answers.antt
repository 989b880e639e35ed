use Rattle.std.proofs.Common.{ap, ◌∙◌}
use Rattle.std.specs.FinMap.{from_sorted}
use Rattle.repo_core.specs.Wants.{want_cmp}
use Rattle.ndn_names.proofs.Rows.{from_none}
use Rattle.repo_core.proofs.wants.Wants.new.Goals as goal

pub returns : goal.returns
returns c = ap (λ es. from_sorted {R = want_cmp} es) c.in_ok-rows.ensures.items ∙ from_none want_cmp
