use Rattle.std.proofs.Common.{refl, sym, ap, ◌∙◌, ◌∷◌, List, ℕ, Result}
use Rattle.ndn_tlv.specs.Reading.{◌>>=◌}
use Rattle.ndn_names.specs.declared.fault.NameFault.{NameFault}
use Rattle.ndn_names.specs.UriReading.{before, hex_in}
use Rattle.ndn_names.proofs.Octets.{put_nothing, put_one}
use Rattle.ndn_names.proofs.component_text.put_hexadecimal.Goals as goal

pub loop-high-init : goal.loop-high-init
loop-high-init c = put_nothing hex_in c.args.out.now.items c.args.out.now.items c.args.text.now refl

pub loop-high-preserved : goal.loop-high-preserved
loop-high-preserved c =
    let after = c.in-Some-split_first.after.now in
    rw c.in_ok-push.ensures.items
    (put_one hex_in c.args.out.now.items c.loop-high.out.items c.args.text.now c.loop-high.rest.now after c.in_ok-octet_of.field-0 c.loop-high.invariant
    (ap hex_in (c.in-Some.ensures.cases.0 ∙ ap (λ (t : List ℕ). c.in-Some.high.now ∷ t) c.in-Some-split_first.ensures.cases.0)
    ∙ ap (λ (r : Result ℕ NameFault). r >>= λ o. before o (hex_in after)) (sym c.in_ok-octet_of.ensures)))
