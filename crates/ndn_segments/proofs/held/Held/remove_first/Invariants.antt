use Rattle.std.proofs.Common.{◌≡◌, drop}
use Rattle.ndn_segments.proofs.held.Held.remove_first.Given as goal

abbrev pub invariant-loop : goal.invariant-loop
invariant-loop l = l.self-inside.places.items ≡ drop l.counter l.initial.self-inside.places.items
