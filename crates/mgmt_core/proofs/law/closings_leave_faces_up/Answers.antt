use Rattle.mgmt_core.proofs.OpenRoutes.{closing_leaves_up}
use Rattle.mgmt_core.proofs.law.closings_leave_faces_up.Goals as goal

pub returns : goal.returns
returns c = λ up rest face routes others all. closing_leaves_up up rest face others routes all
