use Rattle.name_patterns.proofs.GrammarReading.{read_spelled, pattern_only}
use Rattle.name_patterns.proofs.pattern.Pattern.read.Goals as goal

pub returns-clause-found : goal.returns-clause-found
returns-clause-found c = read_spelled c.args.text.now c.read_pattern.result c.read_pattern.ensures

pub returns-clause-only : goal.returns-clause-only
returns-clause-only c = pattern_only c.args.text.now c.read_pattern.result c.read_pattern.ensures
