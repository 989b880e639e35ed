use Rattle.std.proofs.Common.{◌∙◌}
use Rattle.mgmt_core.specs.Windows.{start_of}
use Rattle.mgmt_core.proofs.Windows.{nothing_kept}
use Rattle.mgmt_core.proofs.window.Window.new.Goals as goal

pub returns : goal.returns
returns c = (λ i. record { from = c.saturating_mul.ensures i; len = 0; segment = c.new.ensures.items i }) ∙ nothing_kept (start_of c.args.number)
