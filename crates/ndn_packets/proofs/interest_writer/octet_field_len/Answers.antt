use Rattle.std.proofs.Common.{[], ◌∷◌}
use Rattle.ndn_packets.proofs.InterestWriting.{octet_is_long}
use Rattle.ndn_packets.proofs.interest_writer.octet_field_len.Goals as goal

pub returns-in-Some-clause-len : goal.returns-in-Some-clause-len
returns-in-Some-clause-len c = rw c.in-Some.is (octet_is_long c.element_len.result c.args.kind c.in-Some.octet (c.element_len.ensures (c.in-Some.octet ∷ []) c.octets_len.ensures.len))
