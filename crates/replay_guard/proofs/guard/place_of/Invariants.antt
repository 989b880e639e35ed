use Rattle.std.proofs.Common.{◌≡◌, take}
use Rattle.std.specs.Prelude.{None}
use Rattle.std.specs.FinMap.{find}
use Rattle.replay_guard.specs.Guard.{signer_cmp, signer_of}
use Rattle.replay_guard.proofs.guard.place_of.Given as goal

abbrev pub invariant-loop-at : goal.invariant-loop-at
invariant-loop-at l = find signer_cmp (signer_of l.signer) (take l.at l.rows) ≡ None
