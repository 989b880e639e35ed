use Rattle.std.proofs.Common.{length}
use Rattle.ndn_names.proofs.ComponentTexts.{HasCounted}
use Rattle.ndn_names.proofs.component_text.count_octets.Given as goal

abbrev pub invariant-loop-first : goal.invariant-loop-first
invariant-loop-first l = HasCounted l.count l.has_periods_only l.text l.rest

abbrev pub decreases-loop-first : goal.decreases-loop-first
decreases-loop-first l = length l.rest
