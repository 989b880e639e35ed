use Rattle.std.proofs.Common.{◌≡◌, ◌++◌, take, drop}
use Rattle.hmac_keys.specs.Mac.{xor_each}
use Rattle.hmac_keys.proofs.hmac.combine.Given as goal

abbrev pub invariant-loop-i : goal.invariant-loop-i
invariant-loop-i l = l.block ≡ xor_each l.pad (take l.i l.fn.block) ++ drop l.i l.fn.block
