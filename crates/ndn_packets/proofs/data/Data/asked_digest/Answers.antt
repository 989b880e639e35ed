use Rattle.std.proofs.Common.{◌≡◌, ◌+◌, length, refl, arith}
use Rattle.ndn_names.specs.View.{components}
use Rattle.ndn_packets.proofs.Answering.{full_name_is}
use Rattle.ndn_packets.proofs.data.Data.asked_digest.Goals as goal

pub returns : goal.returns
returns c =
    let name = components c.args.self.now.name in
    let asked = components c.args.asked in
    let longer : length asked ≡ length name + 1 = omega (arith, c.if-len.false, c.len.ensures.exact, c.len-len.ensures.exact) in
    (full_name_is name asked c.in_ok-last.last.value.now c.in_ok-last.last.value.now c.in_ok-last.last.kind c.len-len.result (c.if-not-is_prefix_of.ensures.0 refl) longer c.len-len.ensures.exact c.in_ok-last.ensures.exact).1 (c.if-last-ne-IMPLICIT_SHA256_DIGEST.false, refl)
