use Rattle.std.proofs.Common.{length}
use Rattle.scenarios.proofs.file.set_options.Given as goal

abbrev pub decreases-loop-option : goal.decreases-loop-option
decreases-loop-option l = length l.rest
