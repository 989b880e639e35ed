-- Octets are at most one Data, and they begin with its type.
use Rattle.std.proofs.Common.{◌≡◌, ℕ, List, [], ◌∷◌, ◌++◌, length, Option, None, Some, Ok, Err, MatchOption, slice_get, refl, sym, subst, ap, ◌∙◌, inl, inr}
use Rattle.ndn_tlv.specs.Element.{element}
use Rattle.ndn_tlv.specs.Number.{spelling}
use Rattle.ndn_packets.specs.Grammar.{IsData}
use Rattle.ndn_packets.specs.Link.{IsFrame}
use Rattle.ndn_packets.specs.Packet.{PlainData, PlainFrame, AData}
use Rattle.ndn_packets.specs.View.{plain_data}
use Rattle.ndn_packets.specs.declared.data.Data.{Data}
use Rattle.ndn_packets.specs.declared.fault.PacketFault.{PacketFault}
use Rattle.ndn_packets.proofs.Packets.{frame_again}
use Rattle.ndn_packets.proofs.Steps.{err_is_not_ok, good, ok_is}
use Rattle.certificates.specs.File.{BeginsAsData}

-- the first octet of an element with a type below 253 is its type
element_begins : (kind : ℕ) (octets value : List ℕ) → spelling kind ≡ kind ∷ [] → octets ≡ element (kind, value) → slice_get octets 0 ≡ Some kind
element_begins kind octets value short e = ap (λ (o : List ℕ). slice_get o 0) e ∙ ap (λ (front : List ℕ). slice_get (front ++ (spelling (length value) ++ value)) 0) short

data_spelling : spelling 6 ≡ 6 ∷ []
unfolding spelling
data_spelling = refl

link_spelling : spelling 100 ≡ 100 ∷ []
unfolding spelling
link_spelling = refl

pub data_begins : (octets : List ℕ) (packet : PlainData) → IsData octets packet → BeginsAsData octets
data_begins octets packet h = element_begins 6 octets h.fields.value data_spelling h.fields.outer.1

frame_of_data : (octets : List ℕ) (packet : PlainData) → IsData octets packet → IsFrame octets (AData octets packet)
frame_of_data octets packet h = (None, (h, inl (refl, refl)))

data_is : (octets : List ℕ) (a b : PlainData) → AData octets a ≡ AData octets b → a ≡ b
data_is octets a b e = cc

pub one_data : (octets : List ℕ) (a b : PlainData) → IsData octets a → IsData octets b → a ≡ b
one_data octets a b f g =
    data_is octets a b
    (ok_is (AData octets a) (AData octets b)
    (sym (frame_again octets (AData octets a) (frame_of_data octets a f))
    ∙ frame_again octets (AData octets b) (frame_of_data octets b g)))

other_type : (o : Option ℕ) → o ≡ Some 6 → o ≡ Some 100 → ⊥
other_type o a b = cc

-- a frame with a Data whose octets begin as a Data is no link packet
data-from_frame : (octets whole : List ℕ) (packet : PlainData) → BeginsAsData octets → IsFrame octets (AData whole packet) → IsData octets packet
data-from_frame octets whole packet begins (token, (h, inl same)) = subst (λ (o : List ℕ). IsData o packet) (sym same.0) h
data-from_frame octets whole packet begins (token, (h, inr link)) =
    absurd (other_type (slice_get octets 0) begins (element_begins 100 octets link.value link_spelling link.outer.1))

pub data_in-from_frame : (octets : List ℕ) (frame : PlainFrame) (r : Option Data) → BeginsAsData octets → IsFrame octets frame → ((other : PlainFrame) → IsFrame octets other → good frame ≡ Ok other) → MatchOption r ((whole : List ℕ) (packet : PlainData) → frame ≡ AData whole packet → ⊥) (λ packet. frame ≡ AData packet.whole.now (plain_data packet)) → MatchOption r ((packet : PlainData) → IsData octets packet → ⊥) (λ packet. IsData octets (plain_data packet))
data_in-from_frame octets frame None begins found only m =
    λ packet h. m octets packet (ok_is frame (AData octets packet) (only (AData octets packet) (frame_of_data octets packet h)))
data_in-from_frame octets frame (Some packet) begins found only m =
    data-from_frame octets packet.whole.now (plain_data packet) begins (subst (λ (f : PlainFrame). IsFrame octets f) m found)

pub no_data-from_fault : (octets : List ℕ) (fault : PacketFault) → ((frame : PlainFrame) → IsFrame octets frame → Err fault ≡ good frame) → (packet : PlainData) → IsData octets packet → ⊥
no_data-from_fault octets fault only packet h = err_is_not_ok fault (AData octets packet) (only (AData octets packet) (frame_of_data octets packet h))
