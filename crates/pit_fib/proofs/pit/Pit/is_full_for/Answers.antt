use Rattle.std.proofs.Common.{◌≡◌, ◌≤◌, sym, ap, ◌∙◌, arith}
use Rattle.std.specs.Prelude.{None}
use Rattle.std.specs.FinMap.{len}
use Rattle.std.proofs.lemmas.Bool.Decides.{nat_tests}
use Rattle.ndn_packets.specs.Key.{plain_key}
use Rattle.pit_fib.specs.Pit.{PitState}
use Rattle.pit_fib.proofs.KeptTables.{len-pending, new_where_absent}
use Rattle.pit_fib.proofs.pit.Pit.is_full_for.Goals as goal

pub returns-then-keys-ge-MAX_PENDING : goal.returns-then-keys-ge-MAX_PENDING
returns-then-keys-ge-MAX_PENDING c =
    let size : c.keys.result ≡ len c.args.self.now.pending =
    c.keys.ensures ∙ c.tally.ensures None ∙ sym (len-pending c.self.inside.rows.table) ∙ ap (λ (s : PitState). len s.pending) c.self.view_is in
    new_where_absent c.self.inside.rows.table c.args.self.now.pending (plain_key c.args.key) c.entry_of.result c.self.invariant.0.alive (ap (λ (s : PitState). s.pending) c.self.view_is) c.entry_of.ensures
    c.is_none.result c.is_none.ensures (4096 ≤ len c.args.self.now.pending) (omega (arith, size, c.if-keys-ge-MAX_PENDING.true))

pub returns-else-keys-ge-MAX_PENDING : goal.returns-else-keys-ge-MAX_PENDING
returns-else-keys-ge-MAX_PENDING c =
    let size : c.keys.result ≡ len c.args.self.now.pending =
    c.keys.ensures ∙ c.tally.ensures None ∙ sym (len-pending c.self.inside.rows.table) ∙ ap (λ (s : PitState). len s.pending) c.self.view_is in
    (λ t. absurd (grind (arith, nat_tests, c.if-keys-ge-MAX_PENDING.false, t)), λ h. absurd (omega (arith, size, c.if-keys-ge-MAX_PENDING.false, h.1)))
