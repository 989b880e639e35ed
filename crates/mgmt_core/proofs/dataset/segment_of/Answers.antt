use Rattle.std.proofs.Common.{ap, ◌∙◌, arith, take}
use Rattle.std.specs.Prelude.{Some, ℕ, ◌/◌}
use Rattle.mgmt_core.proofs.Texts.{segment_is}
use Rattle.mgmt_core.proofs.dataset.segment_of.Goals as goal

pub returns : goal.returns
returns c =
    ap (λ (n : ℕ). Some (take n c.split_at.result.1.now, c.saturating_sub.result / 4096)) c.min.ensures
    ∙ segment_is c.args.text.now c.args.number (c.saturating_sub.result / 4096) c.split_at.result.1.now (ap (λ (n : ℕ). n / 4096) (grind (arith, c.saturating_sub.ensures))) c.if-number-last.false c.split_at.ensures.back
