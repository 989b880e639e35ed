use Rattle.ndn_streams.proofs.Calls.{any_pieces}
use Rattle.ndn_streams.proofs.law.any_cut_gives_the_same_packets.Goals as goal

pub returns : goal.returns
returns c = any_pieces
