use Rattle.std.proofs.Common.{arith}
use Rattle.hmac_keys.proofs.Tags.{compared_more}
use Rattle.hmac_keys.proofs.hmac.tags_equal.Goals as goal

pub loop-i-preserved : goal.loop-i-preserved
loop-i-preserved c = compared_more c.args.value.now c.args.tag.now c.loop-i.difference c.loop-i.i (omega arith) (omega arith) c.loop-i.invariant
