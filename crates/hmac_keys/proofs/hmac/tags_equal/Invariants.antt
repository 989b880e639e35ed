use Rattle.hmac_keys.proofs.Tags.{HasCompared}
use Rattle.hmac_keys.proofs.hmac.tags_equal.Given as goal

abbrev pub invariant-loop-i : goal.invariant-loop-i
invariant-loop-i l = HasCompared l.value l.tag l.difference l.i
