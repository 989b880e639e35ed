-- A written link packet is in the grammar if it contains an Interest, with or without a Nack, or a
-- Data without a Nack. Reading the link packet returns the written packet, PIT token and Nack.
use Rattle.std.proofs.Common.{rules, ◌≡◌, ℕ, ◌+◌, ◌^◌, ◌<◌, ◌≤◌, List, [], ◌∷◌, ◌++◌, length, Option, Some, None, Ok, refl, arith, inl, inr}
use Rattle.std.specs.Prelude.{IfSome}
use Rattle.std.specs.Option.{option_map}
use Rattle.std.specs.Borrow.{Bor}
use Rattle.std.specs.List.{AllByRecursion}
use Rattle.std.proofs.lemmas.Grind.{flat_map-append}
use Rattle.std.proofs.lemmas.List.{length-append}
use Rattle.ndn_tlv.specs.Number.{shortest_nni}
use Rattle.ndn_tlv.specs.Element.{Field, IsField, element}
use Rattle.ndn_tlv.specs.Writing.{octets, number}
use Rattle.ndn_tlv.proofs.Numbers.{IsBytes, length-spelling_one, length-spelling_three}
use Rattle.ndn_tlv.proofs.Integers.{nni_of_shortest, length-shortest_eight}
use Rattle.ndn_tlv.proofs.Lengths.{element_fits}
use Rattle.ndn_tlv.proofs.Lengths as exact
use Rattle.ndn_packets.specs.Packet.{PlainInterest, PlainData, framed_with, interest_frame, AnInterest, AData, ANack}
use Rattle.ndn_packets.specs.Fields.{is_even_high}
use Rattle.ndn_packets.specs.Grammar.{IsInterest, IsData}
use Rattle.ndn_packets.specs.Link.{nack_schema, IsNack, IsToken, IsHeader, IsTokenOf, IsNackOf, IsLinkPacket, IsFramed, headers_of, known_headers}
use Rattle.ndn_packets.specs.FrameReading.{framed_at}
use Rattle.ndn_packets.specs.Writing.{lp_text, nack_text, AreOctets, IsU64}
use Rattle.ndn_packets.proofs.FieldLists.{AreBytes}
use Rattle.ndn_packets.proofs.Packets.{framed_again}
use Rattle.ndn_packets.proofs.Written.{length-element, IsBytes-element, IsBytes-octets, all_append, in_order, last, number_fits, bytes_of_number}

-- ---- `lp_text` without a PIT token: the packet alone, or `nack_text` if a Nack is given

pub bare_text : (packet : List ℕ) → lp_text None None packet ≡ packet
bare_text packet = refl

pub bare_nack_text : (reason : ℕ) (packet : List ℕ) → lp_text None (Some reason) packet ≡ nack_text reason packet
bare_nack_text reason packet = refl

-- ---- the reason of a Nack that is written

abbrev reason_text : ℕ → List ℕ
reason_text reason = octets (number 801 (Some reason))

reason_written : (reason : ℕ) → reason < 2 ^ 64 → IsNack (reason_text reason) reason
reason_written reason fits = record {
  reason_value = Some (shortest_nni reason);
  elements = number 801 (Some reason);
  inner = (number_fits 801 (Some reason) (search rules), refl);
  recognised = in_order is_even_high nack_schema (number 801 (Some reason)) (last [] 801 (Some (shortest_nni reason)));
  number = (Some reason, (reason, nni_of_shortest reason fits, refl), refl);
}

length-reason_text : (reason : ℕ) → length (reason_text reason) ≤ 26
length-reason_text reason = omega (arith, length-append (element (801, shortest_nni reason)) [], length-element (801, shortest_nni reason), length-shortest_eight reason)

-- ---- header fields that are written

record Written (headers : List Field) (token : Option (List ℕ)) (nack : Option ℕ) : Type 0 where
  fields : AllByRecursion IsField headers
  allowed : AllByRecursion IsHeader headers
  once : AllByRecursion (λ kind. length (headers_of kind headers) ≤ 1) known_headers
  tokened : IsTokenOf headers token
  nacked : IsNackOf headers nack
  bytes : AreBytes headers
  few : length (octets headers) ≤ 100

token_field : (token : List ℕ) → IsToken token → IsField (98, token)
token_field token sizes = (omega arith, omega arith, omega (arith, sizes))

nack_field : (reason : ℕ) → IsField (800, reason_text reason)
nack_field reason = (omega arith, omega arith, omega (arith, length-reason_text reason))

token_is : (token : List ℕ) → IsToken token → IsHeader (98, token)
token_is token sizes = inr (inr (inr (inl (refl, sizes))))

nack_is : (reason : ℕ) → reason < 2 ^ 64 → IsHeader (800, reason_text reason)
nack_is reason fits = inr (inr (inr (inr (inl (refl, (reason, reason_written reason fits))))))

reason_bytes : (reason : ℕ) → IsBytes (reason_text reason)
reason_bytes reason = IsBytes-octets (number 801 (Some reason)) (bytes_of_number 801 (Some reason))

length-one : (h : Field) → length (octets (h ∷ [])) ≤ length h.1 + 18
length-one h = omega (arith, length-append (element h) [], length-element h)

length-two : (g h : Field) → length (octets (g ∷ h ∷ [])) ≤ length g.1 + (length h.1 + 36)
length-two g h = omega (arith, length-append (element g) (octets (h ∷ [])), length-element g, length-one h)

token_written : (token : List ℕ) → IsToken token → IsBytes token → Written ((98, token) ∷ []) (Some token) None
token_written token sizes fits = record {
  fields = (token_field token sizes, tt);
  allowed = (token_is token sizes, tt);
  once = search rules;
  tokened = refl;
  nacked = refl;
  bytes = (fits, tt);
  few = omega (arith, length-one (98, token), sizes);
}

nack_alone_written : (reason : ℕ) → reason < 2 ^ 64 → Written ((800, reason_text reason) ∷ []) None (Some reason)
nack_alone_written reason fits = record {
  fields = (nack_field reason, tt);
  allowed = (nack_is reason fits, tt);
  once = search rules;
  tokened = refl;
  nacked = (reason_text reason, refl, reason_written reason fits);
  bytes = (reason_bytes reason, tt);
  few = omega (arith, length-one (800, reason_text reason), length-reason_text reason);
}

both_written : (token : List ℕ) (reason : ℕ) → IsToken token → IsBytes token → reason < 2 ^ 64 → Written ((98, token) ∷ (800, reason_text reason) ∷ []) (Some token) (Some reason)
both_written token reason sizes bytes fits = record {
  fields = (token_field token sizes, (nack_field reason, tt));
  allowed = (token_is token sizes, (nack_is reason fits, tt));
  once = search rules;
  tokened = refl;
  nacked = (reason_text reason, refl, reason_written reason fits);
  bytes = (bytes, (reason_bytes reason, tt));
  few = omega (arith, length-two (98, token) (800, reason_text reason), length-reason_text reason, sizes);
}

-- ---- a link packet that is written

length-link : (headers : List Field) (packet : List ℕ) → length (octets (headers ++ (80, packet) ∷ [])) ≤ length (octets headers) + (length packet + 18)
length-link headers packet = rw flat_map-append (omega (arith, length-append (octets headers) (octets ((80, packet) ∷ [])), length-one (80, packet)))

bytes_both : (fields others : List Field) → AreBytes fields → AreBytes others → AreBytes (fields ++ others)
bytes_both [] others p q = q
bytes_both (f ∷ fields) others p q = (p.0, bytes_both fields others p.1 q)

link_written : (headers : List Field) (token : Option (List ℕ)) (nack : Option ℕ) (packet : List ℕ) → Written headers token nack → length packet ≤ 8800 → IsBytes packet
    → IsLinkPacket (element (100, octets (headers ++ (80, packet) ∷ []))) token nack (Some packet)
link_written headers token nack packet w short fits =
    let value = octets (headers ++ (80, packet) ∷ []) in
    let inside = length-link headers packet in
    let outside = length-element (100, value) in
    let own : AllByRecursion IsField ((80, packet) ∷ []) = ((omega arith, omega arith, omega arith), tt) in
    record {
      value = value;
      headers = headers;
      outer = ((omega arith, omega arith, omega (arith, w.few)), refl);
      inner = (all_append IsField headers ((80, packet) ∷ []) w.fields own, refl);
      allowed = w.allowed;
      once = w.once;
      tokened = w.tokened;
      nacked = w.nacked;
      short = omega (arith, w.few);
      octets = IsBytes-element (100, value) (IsBytes-octets (headers ++ (80, packet) ∷ []) (bytes_both headers ((80, packet) ∷ []) w.bytes (fits, tt)));
    }

-- ---- a packet that is written, alone or in a link packet

pub interest_written : (token : Option (List ℕ)) (nack : Option ℕ) (whole : List ℕ) (i : PlainInterest) → IfSome token IsToken → IfSome token AreOctets → IsU64 nack → IsInterest whole i
    → IsFramed (lp_text token nack whole) (framed_with token (interest_frame nack whole i))
interest_written None None whole i sizes bytes fits is = (is, inl (refl, refl))
interest_written (Some token) None whole i sizes bytes fits is =
    (is, inr (link_written ((98, token) ∷ []) (Some token) None whole (token_written token sizes bytes) is.fields.short is.fields.octets))
interest_written None (Some reason) whole i sizes bytes fits is =
    (is, link_written ((800, reason_text reason) ∷ []) None (Some reason) whole (nack_alone_written reason fits) is.fields.short is.fields.octets)
interest_written (Some token) (Some reason) whole i sizes bytes fits is =
    (is, link_written ((98, token) ∷ (800, reason_text reason) ∷ []) (Some token) (Some reason) whole (both_written token reason sizes bytes fits) is.fields.short is.fields.octets)

pub data_written : (token : Option (List ℕ)) (nack : Option ℕ) (whole : List ℕ) (d : PlainData) → IfSome token IsToken → IfSome token AreOctets → IsData whole d → nack ≡ None
    → IsFramed (lp_text token nack whole) (framed_with token (AData whole d))
data_written token (Some reason) whole d sizes bytes is none = absurd cc
data_written None None whole d sizes bytes is none = (is, inl (refl, refl))
data_written (Some token) None whole d sizes bytes is none =
    (is, inr (link_written ((98, token) ∷ []) (Some token) None whole (token_written token sizes bytes) is.fields.short is.fields.octets))

-- if a property holds for the octets of an optional borrowed token, it holds for the optional token
-- as a plain value
pub token_now : (P : List ℕ → Type 0) (token : Option (Bor (List ℕ))) → IfSome token (λ t. P t.now) → IfSome (option_map (λ t. t.now) token) P
token_now P None h = tt
token_now P (Some t) h = h

-- ---- reading a link packet that was written

pub lp_interest_read : (token : Option (List ℕ)) (whole : List ℕ) (i : PlainInterest) → IfSome token IsToken → IfSome token AreOctets → IsInterest whole i
    → framed_at (lp_text token None whole) ≡ Ok (framed_with token (AnInterest whole i))
lp_interest_read token whole i sizes bytes is =
    framed_again (lp_text token None whole) (framed_with token (AnInterest whole i)) (interest_written token None whole i sizes bytes tt is)

pub lp_data_read : (token : Option (List ℕ)) (whole : List ℕ) (d : PlainData) → IfSome token IsToken → IfSome token AreOctets → IsData whole d
    → framed_at (lp_text token None whole) ≡ Ok (framed_with token (AData whole d))
lp_data_read token whole d sizes bytes is =
    framed_again (lp_text token None whole) (framed_with token (AData whole d)) (data_written token None whole d sizes bytes is refl)

pub lp_nack_read : (token : Option (List ℕ)) (reason : ℕ) (whole : List ℕ) (i : PlainInterest) → IfSome token IsToken → IfSome token AreOctets → reason < 2 ^ 64 → IsInterest whole i
    → framed_at (lp_text token (Some reason) whole) ≡ Ok (framed_with token (ANack reason whole i))
lp_nack_read token reason whole i sizes bytes fits is =
    framed_again (lp_text token (Some reason) whole) (framed_with token (ANack reason whole i)) (interest_written token (Some reason) whole i sizes bytes fits is)

-- ---- the length of what was written

token_long : (token : List ℕ) → IsToken token → length (element (98, token)) ≤ 34
token_long token sizes = omega (arith, sizes, exact.length-element 98 token, length-spelling_one 98 (omega arith), length-spelling_one (length token) (omega (arith, sizes)))

reason_long : (reason : ℕ) → length (reason_text reason) ≤ 12
reason_long reason =
    let few = length-shortest_eight reason in
    omega (arith, few, length-append (element (801, shortest_nni reason)) [], exact.length-element 801 (shortest_nni reason), length-spelling_three 801 (omega arith), length-spelling_one (length (shortest_nni reason)) (omega (arith, few)))

nack_long : (reason : ℕ) → length (element (800, reason_text reason)) ≤ 16
nack_long reason =
    let few = reason_long reason in
    omega (arith, few, exact.length-element 800 (reason_text reason), length-spelling_three 800 (omega arith), length-spelling_one (length (reason_text reason)) (omega (arith, few)))

around_long : (headers : List Field) (packet : List ℕ) → length (octets headers) ≤ 50 → length (element (100, octets (headers ++ (80, packet) ∷ []))) ≤ length packet + 70
around_long headers packet few =
    let value = octets (headers ++ (80, packet) ∷ []) in
    let parts : length value ≡ length (octets headers) + length (octets ((80, packet) ∷ [])) = rw flat_map-append (length-append (octets headers) (octets ((80, packet) ∷ []))) in
    omega (arith, few, parts, length-append (element (80, packet)) [], element_fits 80 packet (omega arith), element_fits 100 value (omega arith))

pub length-lp_text : (token : Option (List ℕ)) (nack : Option ℕ) (packet : List ℕ) → IfSome token IsToken → length (lp_text token nack packet) ≤ length packet + 70
length-lp_text None None packet sizes = omega arith
length-lp_text (Some token) None packet sizes =
    around_long ((98, token) ∷ []) packet (omega (arith, length-append (element (98, token)) [], token_long token sizes))
length-lp_text None (Some reason) packet sizes =
    around_long ((800, reason_text reason) ∷ []) packet (omega (arith, length-append (element (800, reason_text reason)) [], nack_long reason))
length-lp_text (Some token) (Some reason) packet sizes =
    let nack = octets ((800, reason_text reason) ∷ []) in
    around_long ((98, token) ∷ (800, reason_text reason) ∷ []) packet
    (omega (arith, length-append (element (98, token)) nack, length-append (element (800, reason_text reason)) [], token_long token sizes, nack_long reason))
