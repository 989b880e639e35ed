use Rattle.ndn_packets.specs.Key.{plain_key}
use Rattle.pit_fib.specs.Cause.{Withdrawn}
use Rattle.tables_conformance.proofs.PendingRoom.{below_after}
use Rattle.tables_conformance.proofs.pending.Table.withdraw.Goals as goal

pub invariant_of-self : goal.invariant_of-self
invariant_of-self c = below_after (Withdrawn (plain_key c.args.key) c.args.face) c.self.inside.pit.pending c.withdraw.new.self.pending (λ face adds. absurd adds) c.withdraw.ensures.pending c.self.invariant
