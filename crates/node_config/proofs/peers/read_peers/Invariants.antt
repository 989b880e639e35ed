use Rattle.std.proofs.Common.{◌≤◌, List, [], length, map}
use Rattle.std.specs.Prelude.{Result}
use Rattle.info_rules.specs.Shown.{keys_of}
use Rattle.node_config.specs.declared.fault.ConfigFault.{ConfigFault}
use Rattle.node_config.specs.Peers.{PeersAfter}
use Rattle.node_config.specs.Plain.{PlainPeer, plain_peer}
use Rattle.node_config.proofs.peers.read_peers.Given as goal

-- each result of the keys that are left, after the peers so far, is a result of all keys; and there
-- are at most 64 peers so far
abbrev pub invariant-loop-key : goal.invariant-loop-key
invariant-loop-key l = record {
  rest :
      (r : Result (List PlainPeer) ConfigFault)
      → PeersAfter l.own (map plain_peer l.peers.items) (keys_of l.left) r
      → PeersAfter l.own [] (keys_of l.initial.left) r;
  few : length l.peers.items ≤ 64;
}

abbrev pub decreases-loop-key : goal.decreases-loop-key
decreases-loop-key l = length l.left.entries.now
