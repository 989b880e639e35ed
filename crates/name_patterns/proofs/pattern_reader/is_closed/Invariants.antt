use Rattle.std.proofs.Common.{◌≡◌, false, drop}
use Rattle.name_patterns.specs.PatternReading.{is_closed}
use Rattle.name_patterns.proofs.pattern_reader.is_closed.Given as goal

abbrev pub invariant-loop-octet : goal.invariant-loop-octet
invariant-loop-octet l = is_closed false l.text ≡ is_closed l.is_inside (drop l.octet-index l.text)
