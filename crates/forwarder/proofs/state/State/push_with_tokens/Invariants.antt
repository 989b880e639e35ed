use Rattle.std.proofs.Common.{◌≡◌, ℕ, ◌+◌, ◌*◌, ◌≤◌, ◌++◌, All, drop, length}
use Rattle.sha2.specs.Sha256.{sha256}
use Rattle.ndn_names.specs.View.{components}
use Rattle.pit_fib.specs.Records.{records_at}
use Rattle.pit_fib.specs.Tokens.{IsTokenFor}
use Rattle.pit_fib.specs.declared.face_set.TheConstants.{MAX_FACES}
use Rattle.forwarder.specs.Event.{Token}
use Rattle.forwarder.specs.Replies.{Askers, faces_of, sent_to}
use Rattle.forwarder.specs.declared.sends.TheConstants.{LINK_EXTRA}
use Rattle.forwarder.proofs.state.State.push_with_tokens.Given as goal

-- The sends so far are the sends to the faces before index `i`. Each of these sends has the token
-- for its face. The places and the space that are left are enough for the faces from index `i` on.
abbrev pub invariant-loop-i : goal.invariant-loop-i
invariant-loop-i l = record {
  sends : (some : Askers) × (l.faces ≡ faces_of some ++ drop l.i l.faces)
      × All (λ (a : ℕ × Token). IsTokenFor (records_at l.self.pit.pending) (components l.packet.name) (sha256 l.packet.whole.now) a.0 a.1) some
      × (l.out.sends ≡ l.initial.out.sends ++ sent_to some l.packet.whole.now);
  places : MAX_FACES ≤ l.out.places + l.i;
  space : MAX_FACES * (length l.packet.whole.now + LINK_EXTRA) ≤ l.out.space + l.i * (length l.packet.whole.now + LINK_EXTRA);
}
