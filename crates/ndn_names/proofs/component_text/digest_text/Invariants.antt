use Rattle.ndn_names.proofs.ComponentTexts.{HasPaired}
use Rattle.ndn_names.proofs.component_text.digest_text.Given as goal

abbrev pub invariant-loop-i : goal.invariant-loop-i
invariant-loop-i l = HasPaired l.i l.text
