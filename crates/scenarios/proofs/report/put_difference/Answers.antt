use Rattle.scenarios.proofs.Reports.{then}
use Rattle.scenarios.proofs.report.put_difference.Goals as goal

pub returns : goal.returns
returns c =
    then _ _ _ _ _
    (then _ _ _ _ _
    (then _ _ _ _ _
    (then _ _ _ _ _
    (then _ _ _ _ _ c.in_ok-extend_from_slice.ensures.items c.in_ok-extend_from_slice-2.ensures.items)
    c.in_ok-put_shown.ensures)
    c.in_ok-extend_from_slice-3.ensures.items)
    c.in_ok-put_shown-2.ensures)
    c.in_ok-extend_from_slice-4.ensures.items
