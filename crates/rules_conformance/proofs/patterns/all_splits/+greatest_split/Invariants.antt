use Rattle.std.proofs.Common.{length}
use Rattle.rules_conformance.proofs.patterns.all_splits.+greatest_split.Given as goal

abbrev pub decreases-greatest_split : goal.decreases-greatest_split
decreases-greatest_split l = length l.atoms.now
