use Rattle.std.proofs.Common.{◌≡◌, ℕ, ◌<◌, ◌%◌, true, false, not, sym, ap, ◌∙◌, arith}
use Rattle.std.specs.FinMap.{get}
use Rattle.ndn_packets.specs.Key.{plain_key}
use Rattle.pit_fib.specs.Records.{records_at}
use Rattle.pit_fib.specs.Cause.{SentTo}
use Rattle.tables_conformance.proofs.PendingRoom.{room_below, below_after_either, asks_is_alive, interest_asks}
use Rattle.tables_conformance.proofs.pending.Table.sent.Goals as goal

small : (face : ℕ) → face % 64 < 64
small face = omega arith

pub sent-requires-clause-stands : goal.sent-requires-clause-stands
sent-requires-clause-stands c =
    let r = records_at c.self.inside.pit.pending (plain_key c.args.key) in
    asks_is_alive r c.args.asker (interest_asks c.interest_of.result (get r.in_records c.args.asker) c.interest_of.ensures (c.is_none.ensures ∙ ap (λ b. not b) c.if-is_none.false))

pub sent-requires-clause-room : goal.sent-requires-clause-room
sent-requires-clause-room c = room_below _ (c.args.face % 64) c.self.invariant (small c.args.face)

pub invariant_of-self : goal.invariant_of-self
invariant_of-self c =
    below_after_either c.sent.result (SentTo (plain_key c.args.key) (c.args.face % 64) c.args.nonce c.args.now) c.self.inside.pit.pending c.sent.new.self.pending
    (λ face one. omega (arith, one, small c.args.face)) c.sent.ensures.ok c.sent.ensures.err c.self.invariant
