use Rattle.std.proofs.Common.{ℕ, ◌-◌, ◌++◌, length, take, ap, ◌∙◌}
use Rattle.std.specs.Prelude.{min}
use Rattle.mgmt_core.proofs.Windows.{up_to}
use Rattle.mgmt_core.proofs.window.put_up_to.Goals as goal

pub returns-clause-ok : goal.returns-clause-ok
returns-clause-ok c =
    let segment = c.args.segment.now.items in
    let more = c.args.more.now in
    c.in_ok-extend_from_slice.ensures.items
    ∙ ap (λ (n : ℕ). segment ++ take n more) (c.min.ensures ∙ ap (λ (n : ℕ). min (length more) (4096 - n)) (c.len-room.ensures ∙ c.args.segment.now.ok.0))
    ∙ up_to segment more c.requires
