use Rattle.std.proofs.Common.{◌≡◌, ◌≤◌, ◌+◌, length, drop}
use Rattle.strategies.specs.Eligible.{eligible}
use Rattle.strategies.specs.Selection.{multicast}
use Rattle.strategies.specs.Choice.{faces_of}
use Rattle.strategies.proofs.multicast.MulticastStrategy.choose.Given as goal

abbrev pub invariant-loop-i : goal.invariant-loop-i
invariant-loop-i l =
    (length l.faces + l.i ≤ 64)
    × (l.faces ≡ faces_of (multicast (eligible l.ask (drop l.i l.hops)) l.used l.ask.now))
