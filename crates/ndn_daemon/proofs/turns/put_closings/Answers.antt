use Rattle.std.proofs.Common.{◌≡◌, ◌++◌, ◌+◌, ◌∙◌, ℕ, List, suc, arith, append_assoc, ap, sym, map, length, take}
use Rattle.std.specs.Prelude.{slice_get}
use Rattle.forwarder.specs.Event.{PlainEvent}
use Rattle.node_ports.specs.Ports.{plain_arrival}
use Rattle.ndn_daemon.specs.Restart.{closing, closings}
use Rattle.ndn_daemon.proofs.Restarting.{closings_next}
use Rattle.ndn_daemon.proofs.turns.put_closings.Goals as goal

pub loop-i-preserved : goal.loop-i-preserved
loop-i-preserved c =
    let faces = c.args.node.now.policy.faces in
    let peers : ℕ = length c.args.options.now.peers.items in
    let local : ℕ = c.args.options.now.local in
    let now : ℕ = c.args.node.now.policy.now in
    let next : c.loop-i.i + 1 ≡ suc c.loop-i.i = omega arith in
    c.in_ok-put_closing.ensures
    ∙ ap (λ (l : List PlainEvent). l ++ closing peers local now (slice_get faces c.loop-i.i)) c.loop-i.invariant
    ∙ append_assoc (map plain_arrival c.args.first.now.items) (closings peers local now (take c.loop-i.i faces)) (closing peers local now (slice_get faces c.loop-i.i))
    ∙ ap (λ (l : List PlainEvent). map plain_arrival c.args.first.now.items ++ l) (sym (closings_next peers local now faces c.loop-i.i))
    ∙ ap (λ (n : ℕ). map plain_arrival c.args.first.now.items ++ closings peers local now (take n faces)) (sym next)
