use Rattle.std.proofs.Common.{◌≡◌, ◌++◌, length, map, take}
use Rattle.node_ports.specs.Ports.{plain_arrival}
use Rattle.ndn_daemon.specs.Restart.{closings}
use Rattle.ndn_daemon.proofs.turns.put_closings.Given as goal

abbrev pub invariant-loop-i : goal.invariant-loop-i
invariant-loop-i l =
    map plain_arrival l.first.items
    ≡ map plain_arrival l.initial.first.items
    ++ closings (length l.options.peers.items) l.options.local l.node.policy.now (take l.i l.node.policy.faces)
