use Rattle.std.proofs.Common.{◌∙◌, arith, ap, sym}
use Rattle.std.proofs.lemmas.List.{take_all}
use Rattle.p256.specs.Integer.{value}
use Rattle.p256.specs.Octets.{big_endian}
use Rattle.p256.proofs.BigEndian.{big_endian-nil, big_endian_more, big_endian_room}
use Rattle.p256.proofs.octets.number_of.Goals as goal

pub loop-octet-init : goal.loop-octet-init
loop-octet-init c = sym big_endian-nil

pub with_octet-number-requires : goal.with_octet-number-requires
with_octet-number-requires c =
    omega (arith, c.loop-octet.invariant, big_endian_room c.args.octets.now c.loop-octet.octet-index (λ i. omega (arith, c.type_inv.octets i)) (omega arith) (omega arith))

pub loop-octet-preserved : goal.loop-octet-preserved
loop-octet-preserved c =
    c.with_octet-number.ensures ∙ big_endian_more c.args.octets.now c.loop-octet.octet-index (value c.loop-octet.number) (omega arith) c.loop-octet.invariant

pub returns : goal.returns
returns c = c.loop-octet.invariant ∙ ap big_endian (take_all c.loop-octet.octet-index c.args.octets.now (omega arith))
