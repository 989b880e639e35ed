use Rattle.mgmt_core.proofs.OpenRoutes.{expiry_leaves_up}
use Rattle.mgmt_core.proofs.law.expiry_leaves_faces_up.Goals as goal

pub returns : goal.returns
returns c = λ now up routes all. expiry_leaves_up now up routes all
