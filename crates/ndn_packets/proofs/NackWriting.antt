-- The parts of a link packet that is written.
use Rattle.std.proofs.Common.{◌≡◌, ℕ, ◌+◌, List, ◌++◌, length, ap, ◌∙◌, append_assoc, append-nil, arith}
use Rattle.std.proofs.lemmas.List.{length-append}
use Rattle.ndn_tlv.specs.Number.{spelling}
use Rattle.ndn_tlv.specs.Element.{element}
use Rattle.ndn_packets.specs.Writing.{nack_field, nack_text}
use Rattle.ndn_tlv.proofs.Lengths.{length-element, element_put}

pub link_put : (old headers : List ℕ) (packet : List ℕ) (value_len : ℕ) → value_len ≡ length (headers ++ element (80, packet))
    → ((old ++ (spelling 100 ++ spelling value_len)) ++ headers) ++ element (80, packet) ≡ old ++ element (100, headers ++ element (80, packet))
link_put old headers packet value_len is =
    append_assoc (old ++ (spelling 100 ++ spelling value_len)) headers (element (80, packet))
    ∙ element_put old 100 value_len (headers ++ element (80, packet)) is

-- the lengths of the parts of a link packet add up to the length of the link packet
pub link_parts : (headers packet : List ℕ) (value_len : ℕ) → value_len ≡ length (headers ++ element (80, packet))
    → length (element (100, headers ++ element (80, packet))) ≡ length (spelling 100 ++ spelling value_len) + (length headers + length (element (80, packet)))
link_parts headers packet value_len is =
    let value = headers ++ element (80, packet) in
    rw is (omega (
      arith,
      length-element 100 value,
      length-append headers (element (80, packet)),
      length-append (spelling 100) (spelling (length value)),
    ))

-- ---- the parts of a link packet with a Nack

-- the TLV-VALUE of a link packet with a Nack
abbrev pub nack_value : ℕ → List ℕ → List ℕ
nack_value reason interest = nack_field reason ++ element (80, interest)

nack_text_is : (reason : ℕ) (interest : List ℕ) → nack_text reason interest ≡ element (100, nack_value reason interest)
nack_text_is reason interest = simp append-nil

-- the lengths of the parts of a link packet with a Nack add up to the length of this link packet
pub nack_parts : (reason : ℕ) (interest : List ℕ) (value_len : ℕ) → value_len ≡ length (nack_value reason interest)
    → length (nack_text reason interest) ≡ length (spelling 100 ++ spelling value_len) + (length (nack_field reason) + length (element (80, interest)))
nack_parts reason interest value_len is = ap length (nack_text_is reason interest) ∙ link_parts (nack_field reason) interest value_len is
