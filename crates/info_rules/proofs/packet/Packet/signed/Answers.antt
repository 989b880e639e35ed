use Rattle.info_rules.proofs.packet.Packet.signed.Goals as goal

pub returns-in-Data : goal.returns-in-Data
returns-in-Data c = rw c.in-Data.is c.signed_data.ensures
