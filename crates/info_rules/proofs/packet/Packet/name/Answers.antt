use Rattle.std.proofs.Common.{sym}
use Rattle.info_rules.proofs.Undigested.{undigested}
use Rattle.info_rules.proofs.packet.Packet.name.Goals as goal

pub returns-in-None : goal.returns-in-None
returns-in-None c = rw c.in-Interest.is (sym (undigested c.in-Interest.interest.now c.in-None.is))
