use Rattle.std.proofs.Common.{◌≡◌, ◌+◌, ◌≤◌, ◌++◌, take, map, vec_len, vec_capacity}
use Rattle.forwarder.specs.Outbox.{placed}
use Rattle.forwarder.proofs.sends.place_each.Given as goal

abbrev pub invariant-loop-i : goal.invariant-loop-i
invariant-loop-i l = record {
  items : l.places.items ≡ l.initial.places.items ++ map (placed l.start l.end) (take l.i l.faces);
  len : vec_len l.places ≡ vec_len l.initial.places + l.i;
  capacity : vec_capacity l.initial.places ≤ vec_capacity l.places;
  below : l.i ≤ l.i-end;
}
