use Rattle.std.proofs.Common.{◌∙◌, ap, refl}
use Rattle.ndn_names.specs.UriReading.{octets_in}
use Rattle.ndn_names.proofs.Octets.{put_nothing, put_one}
use Rattle.ndn_names.proofs.component_text.put_escaped.Goals as goal

pub loop-first-init : goal.loop-first-init
loop-first-init c = put_nothing octets_in c.args.out.now.items c.args.out.now.items c.args.text.now refl

pub loop-first-preserved : goal.loop-first-preserved
loop-first-preserved c =
    rw c.in_ok-push.ensures.items
    (put_one octets_in c.args.out.now.items c.loop-first.out.items c.args.text.now c.loop-first.rest.now c.in_ok-octet.after.now c.in_ok-octet.octet c.loop-first.invariant
    (ap octets_in c.in-Some.ensures.cases.0 ∙ c.in_ok-octet.ensures.read))
