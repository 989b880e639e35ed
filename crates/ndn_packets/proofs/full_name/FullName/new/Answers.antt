use Rattle.std.proofs.Common.{◌≡◌, ◌∙◌, ◌++◌, ap, List, ℕ, length, rules}
use Rattle.ndn_tlv.specs.Element.{element}
use Rattle.ndn_names.specs.View.{components}
use Rattle.ndn_names.proofs.Names.{components_of-is}
use Rattle.ndn_packets.specs.FullName.{name_in, digest_in, IsFullName}
use Rattle.ndn_packets.proofs.FullNames.{made}
use Rattle.ndn_packets.proofs.full_name.FullName.new.Goals as goal
use Rattle.ndn_packets.proofs.full_name.FullName.new.Goals.{In_ok-put_element}

whole : (c : In_ok-put_element) → (name_in c.put_element.new.out.items ≡ components c.args.packet.now.name)
    × (digest_in c.put_element.new.out.items ≡ c.digest.result) × IsFullName c.put_element.new.out.items
whole c =
    let name = components c.args.packet.now.name in
    let long : length c.digest.result ≡ 32 = search rules in
    let full : c.put_element.new.out.items ≡ c.as_octets.result.now ++ element (1, c.digest.result) =
    c.in_ok-put_element.ensures.ok ∙ ap (λ (kind : ℕ). c.in_ok-octets.octets.items ++ element (kind, c.digest.result)) c.from.ensures
    ∙ ap (λ (t : List ℕ). t ++ element (1, c.digest.result)) c.in_ok-octets.ensures.items in
    made c.as_octets.result.now c.digest.result c.put_element.new.out.items name c.as_octets.ensures (components_of-is _ name c.as_octets.ensures) long full

pub invariant_of-result : goal.invariant_of-result
invariant_of-result c = (whole c).2

pub returns : goal.returns
returns c =
    let w = whole c in
    let d = w.1 ∙ c.digest.ensures.exact in
    λ k. record { name = w.0 k; digest = d k }
