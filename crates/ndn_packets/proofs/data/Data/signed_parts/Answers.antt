use Rattle.std.proofs.Common.{refl}
use Rattle.ndn_packets.proofs.Held.{data_covered_read}
use Rattle.ndn_packets.proofs.data.Data.signed_parts.Goals as goal

pub returns : goal.returns
returns c = (data_covered_read c.args.self.now, refl)
