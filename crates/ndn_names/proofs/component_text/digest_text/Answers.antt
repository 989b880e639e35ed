use Rattle.std.proofs.Common.{sym, arith}
use Rattle.ndn_names.proofs.ComponentTexts.{paired_nothing, paired_one, digest_said}
use Rattle.ndn_names.proofs.component_text.digest_text.Goals as goal

pub loop-i-init : goal.loop-i-init
loop-i-init c = paired_nothing c.args.text.now

pub loop-i-preserved : goal.loop-i-preserved
loop-i-preserved c =
    paired_one c.loop-i.i c.in_ok-octet_of.field-0 c.args.text.now (omega (arith, c.if-text.false, c.loop-i-test.true)) c.loop-i.invariant (sym c.in_ok-octet_of.ensures)

pub returns : goal.returns
returns c = digest_said c.args.kind c.args.text.now c.loop-i.i (omega (arith, c.if-text.false)) (omega (arith, c.loop-i-test.false)) c.loop-i.invariant
