use Rattle.std.proofs.Common.{length, ap, ◌∙◌, arith}
use Rattle.ndn_names.specs.UriReading.{octets_in}
use Rattle.ndn_names.proofs.ComponentTexts.{counted_nothing, counted_one}
use Rattle.ndn_names.proofs.component_text.count_octets.Goals as goal

pub loop-first-init : goal.loop-first-init
loop-first-init c = counted_nothing c.args.text.now

pub loop-first-preserved : goal.loop-first-preserved
loop-first-preserved c =
    counted_one c.loop-first.count c.loop-first.has_periods_only c.args.text.now c.loop-first.rest.now c.in_ok-octet.after.now c.in_ok-octet.octet c.loop-first.invariant
    (ap octets_in c.in-Some.ensures.cases.0 ∙ c.in_ok-octet.ensures.read)
    (omega (arith, ap length c.in-Some.ensures.cases.0, c.in_ok-octet.ensures.shorter))
