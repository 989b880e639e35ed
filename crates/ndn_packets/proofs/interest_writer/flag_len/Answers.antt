use Rattle.std.proofs.Common.{[], refl}
use Rattle.ndn_packets.proofs.InterestWriting.{flag_is_long}
use Rattle.ndn_packets.proofs.interest_writer.flag_len.Goals as goal

pub returns-then-set : goal.returns-then-set
returns-then-set c = rw c.if-set.true (flag_is_long c.element_len.result c.args.kind (c.element_len.ensures [] refl))
