use Rattle.std.proofs.Common.{get_or, arith}
use Rattle.std.specs.Prelude.{bit_xor}
use Rattle.std.proofs.lemmas.List.{get_or_default}
use Rattle.std.proofs.lemmas.List.Edits.{map_over_more}
use Rattle.hmac_keys.proofs.Tags.{combined_len}
use Rattle.hmac_keys.proofs.hmac.combine.Goals as goal

pub loop-i-preserved : goal.loop-i-preserved
loop-i-preserved c =
    let old = c.args.block.now in
    let x = get_or c.loop-i.block c.loop-i.i 0 in
    map_over_more (λ o. bit_xor o c.args.pad) old c.loop-i.block c.loop-i.i x (omega (arith, c.told-block, c.loop-i-test.true)) c.loop-i.invariant
    (get_or_default c.loop-i.block c.loop-i.i 0 x (combined_len old c.loop-i.block c.args.pad c.loop-i.i (omega (arith, c.told-block, c.loop-i-test.true)) c.loop-i.invariant))
