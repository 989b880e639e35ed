use Rattle.mgmt_core.proofs.OpenRoutes.{opening_leaves_up}
use Rattle.mgmt_core.proofs.law.openings_leave_faces_up.Goals as goal

pub returns : goal.returns
returns c = λ face up routes all. opening_leaves_up face up routes all
