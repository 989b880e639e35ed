use Rattle.std.proofs.Common.{◌≡◌, ◌≤◌, ℕ, true, take}
use Rattle.std.specs.Prelude.{None, Some}
use Rattle.ndn_packets.specs.Key.{key_of}
use Rattle.ndn_packets.specs.View.{plain_interest}
use Rattle.pit_fib.specs.Pit.{HasRecord}
use Rattle.pit_fib.specs.Records.{HoldsTheLiving, is_alive, records_at}
use Rattle.forwarder.specs.Causes.{sent_causes}
use Rattle.forwarder.specs.OpenFaces.{is_open}
use Rattle.forwarder.specs.Node.{FollowAll}
use Rattle.forwarder.proofs.state.State.record_sent.Given as goal

abbrev pub invariant-loop-i : goal.invariant-loop-i
invariant-loop-i l = record {
  pending : FollowAll (sent_causes (key_of (plain_interest l.interest)) (plain_interest l.interest).nonce l.initial.self.now (take l.i l.faces))
      l.initial.self.pit.pending l.self.pit.pending;
  alive : is_alive (records_at l.self.pit.pending (key_of (plain_interest l.interest))) ≡ true;
  records : (f : ℕ) → HasRecord l.self.pit.pending f → is_open f l.initial.self.faces ≡ true;
  living : HoldsTheLiving l.initial.self.pit.pending → HoldsTheLiving l.self.pit.pending;
  rest : l.self ≡ record l.initial.self { pit = l.self.pit };
  prepared : l.self.pit.prepared ≡ Some (key_of (plain_interest l.interest), None);
  below : l.i ≤ l.i-end;
}
