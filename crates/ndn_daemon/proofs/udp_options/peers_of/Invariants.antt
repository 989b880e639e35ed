use Rattle.std.proofs.Common.{map}
use Rattle.ndn_daemon.proofs.Peers.{SoFar}
use Rattle.ndn_daemon.proofs.udp_options.peers_of.Given as goal

-- the texts before the index `text-index` spell the endpoints in `peers` in order, and no two of
-- these endpoints are equal
abbrev pub invariant-loop-text : goal.invariant-loop-text
invariant-loop-text l = SoFar (map (λ text. text.now) l.texts) l.text-index l.peers.items
