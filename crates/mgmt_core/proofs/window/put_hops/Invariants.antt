use Rattle.std.proofs.Common.{◌≡◌, ◌++◌, take}
use Rattle.std.specs.Prelude.{flat_map}
use Rattle.mgmt_core.specs.Writing.{hop_text}
use Rattle.mgmt_core.proofs.window.put_hops.Given as goal

abbrev pub invariant-loop-at : goal.invariant-loop-at
invariant-loop-at l = l.text.items ≡ l.initial.text.items ++ flat_map hop_text (take l.at l.hops)
