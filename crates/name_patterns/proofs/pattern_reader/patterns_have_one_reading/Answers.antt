use Rattle.name_patterns.proofs.GrammarReading.{pattern_found, pattern_again, one_pattern}
use Rattle.name_patterns.proofs.pattern_reader.patterns_have_one_reading.Goals as goal

pub returns : goal.returns
returns c = record {
  exact = λ text pattern. (pattern_found text pattern, pattern_again text pattern);
  one = one_pattern;
}
