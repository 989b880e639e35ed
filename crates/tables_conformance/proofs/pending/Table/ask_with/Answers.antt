use Rattle.std.proofs.Common.{◌≡◌, ℕ, ◌<◌, ◌%◌, arith}
use Rattle.std.specs.Prelude.{Some}
use Rattle.ndn_packets.specs.Key.{plain_key}
use Rattle.pit_fib.specs.Cause.{Arrives}
use Rattle.tables_conformance.proofs.PendingRoom.{room_below, below_after_either}
use Rattle.tables_conformance.proofs.pending.Table.ask_with.Goals as goal

small : (face : ℕ) → face % 64 < 64
small face = omega arith

pub arrive-requires-clause-room : goal.arrive-requires-clause-room
arrive-requires-clause-room c = room_below c.self.inside.pit.pending (c.args.face % 64) c.self.invariant (small c.args.face)

pub invariant_of-self : goal.invariant_of-self
invariant_of-self c =
    below_after_either c.arrive.result (Arrives (plain_key c.args.key) (c.args.face % 64) (record { interest = c.args.nonce; nonce = c.args.nonce; deadline = c.args.deadline; token = Some c.args.token.now }))
    c.self.inside.pit.pending c.arrive.new.self.pending (λ face one. omega (arith, one, small c.args.face)) c.arrive.ensures.ok c.arrive.ensures.err c.self.invariant
