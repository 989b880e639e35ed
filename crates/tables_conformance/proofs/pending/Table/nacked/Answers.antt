use Rattle.ndn_packets.specs.Key.{plain_key}
use Rattle.pit_fib.specs.Cause.{NackCame}
use Rattle.tables_conformance.proofs.PendingRoom.{below_after}
use Rattle.tables_conformance.proofs.pending.Table.nacked.Goals as goal

pub invariant_of-self : goal.invariant_of-self
invariant_of-self c = below_after (NackCame (plain_key c.args.key) c.args.face c.args.nonce c.args.reason) c.self.inside.pit.pending c.nacked.new.self.pending (λ face adds. absurd adds) c.nacked.ensures.pending c.self.invariant
