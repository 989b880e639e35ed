use Rattle.std.proofs.Common.{refl}
use Rattle.ndn_client.proofs.answer.hmac_of.Goals as goal

pub returns-in-None : goal.returns-in-None
returns-in-None c = (refl, rw c.view-name.ensures at c.in-None.ensures)
