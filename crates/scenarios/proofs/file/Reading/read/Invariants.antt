use Rattle.std.proofs.Common.{length}
use Rattle.scenarios.proofs.file.Reading.read.Given as goal

abbrev pub decreases-loop-line : goal.decreases-loop-line
decreases-loop-line l = length l.rest
