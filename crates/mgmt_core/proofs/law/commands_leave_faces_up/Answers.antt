use Rattle.mgmt_core.proofs.OpenRoutes.{command_leaves_up}
use Rattle.mgmt_core.proofs.law.commands_leave_faces_up.Goals as goal

pub returns : goal.returns
returns c = λ command face now up routes choices all. command_leaves_up up command face now routes choices all
