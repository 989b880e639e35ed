use Rattle.ndn_packets.specs.Key.{plain_key}
use Rattle.pit_fib.specs.Cause.{Removed}
use Rattle.tables_conformance.proofs.PendingRoom.{below_after}
use Rattle.tables_conformance.proofs.pending.Table.remove.Goals as goal

pub invariant_of-self : goal.invariant_of-self
invariant_of-self c = below_after (Removed (plain_key c.args.key)) c.self.inside.pit.pending c.remove.new.self.pending (λ face adds. absurd adds) c.remove.ensures.pending c.self.invariant
