use Rattle.std.proofs.Common.{◌≤◌, ◌+◌, length}
use Rattle.std.specs.Prelude.{IsUtf8}
use Rattle.key_files.proofs.KeyChecks.{HasChecked}
use Rattle.key_files.proofs.key_check.check_keys.Given as goal

abbrev pub invariant-loop-rest : goal.invariant-loop-rest
invariant-loop-rest l = HasChecked l.before l.keys l.text l.rest × (l.before + length l.rest ≤ length l.text) × IsUtf8 l.rest

abbrev pub decreases-loop-rest : goal.decreases-loop-rest
decreases-loop-rest l = length l.rest
