-- An upper bound of the number of octets by which a link packet is longer than the packet in it.
use Rattle.std.proofs.Common.{◌≡◌, ℕ, ◌+◌, ◌≤◌, List, [], ◌∷◌, length, Option, None, Some, arith}
use Rattle.std.specs.Prelude.{IfSome}
use Rattle.std.proofs.lemmas.List.{length-append}
use Rattle.ndn_tlv.specs.Number.{shortest_nni}
use Rattle.ndn_tlv.specs.Element.{Field, element}
use Rattle.ndn_tlv.specs.Writing.{octets}
use Rattle.ndn_tlv.proofs.Integers.{length-shortest_eight}
use Rattle.ndn_tlv.proofs.Lengths.{element_fits, length-element}
use Rattle.ndn_tlv.proofs.Numbers.{length-spelling_one, length-spelling_three}
use Rattle.ndn_packets.specs.Link.{IsToken}
use Rattle.ndn_packets.specs.Writing.{lp_text}
use Rattle.forwarder.specs.declared.sends.TheConstants.{LINK_EXTRA}

more : (h : Field) (fields : List Field) → length (octets (h ∷ fields)) ≡ length (element h) + length (octets fields)
more h fields = length-append (element h) (octets fields)

token_fits : (token : List ℕ) → IsToken token → length (element (98, token)) ≤ 34
token_fits token is = omega (arith, is, length-element 98 token, length-spelling_one 98 (omega arith), length-spelling_one (length token) (omega (arith, is)))

-- the header of a Nack has at most 16 octets, since a reason takes at most 8 octets
nack_fits : (reason : ℕ) → length (element (800, octets ((801, shortest_nni reason) ∷ []))) ≤ 16
nack_fits reason =
    let inner = octets ((801, shortest_nni reason) ∷ []) in
    let eight = length-shortest_eight reason in
    let short : length inner ≤ 12 = omega (arith, more (801, shortest_nni reason) [], eight, length-element 801 (shortest_nni reason), length-spelling_three 801 (omega arith), length-spelling_one (length (shortest_nni reason)) (omega (arith, eight))) in
    omega (arith, short, length-element 800 inner, length-spelling_three 800 (omega arith), length-spelling_one (length inner) (omega (arith, short)))

-- a link packet with a valid token or without a token is at most `LINK_EXTRA` octets longer than
-- the packet in it
pub link_is_short : (token : Option (List ℕ)) (nack : Option ℕ) (packet : List ℕ) → IfSome token IsToken → length (lp_text token nack packet) ≤ length packet + LINK_EXTRA
link_is_short None None packet is = omega arith
link_is_short None (Some reason) packet is =
    let nack : Field = (800, octets ((801, shortest_nni reason) ∷ [])) in
    omega (arith, nack_fits reason, more nack ((80, packet) ∷ []), more (80, packet) [], element_fits 80 packet (omega arith), element_fits 100 (octets (nack ∷ (80, packet) ∷ [])) (omega arith))
link_is_short (Some token) None packet is =
    omega (arith, token_fits token is, more (98, token) ((80, packet) ∷ []), more (80, packet) [], element_fits 80 packet (omega arith), element_fits 100 (octets ((98, token) ∷ (80, packet) ∷ [])) (omega arith))
link_is_short (Some token) (Some reason) packet is =
    let nack : Field = (800, octets ((801, shortest_nni reason) ∷ [])) in
    omega (
      arith,
      token_fits token is,
      nack_fits reason,
      more (98, token) (nack ∷ (80, packet) ∷ []),
      more nack ((80, packet) ∷ []),
      more (80, packet) [],
      element_fits 80 packet (omega arith),
      element_fits 100 (octets ((98, token) ∷ nack ∷ (80, packet) ∷ [])) (omega arith),
    )
