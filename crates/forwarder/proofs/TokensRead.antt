-- Which PIT token is read from octets that the node sends: the token that was put into the link
-- packet, and none from a packet without a link packet.
use Rattle.std.proofs.Common.{◌≡◌, ℕ, ◌≤◌, Bool, true, false, cond, List, [], ◌∷◌, ◌++◌, length, refl, sym, ap, ◌∙◌, arith, Result, Ok, Err, lit<}
use Rattle.std.specs.Prelude.{◌==◌, Option, None, Some, IfSome, nat_lt}
use Rattle.std.proofs.lemmas.Bool.{eqb-true, le-ltb, ltb-false}
use Rattle.std.proofs.lemmas.List.{length-append}
use Rattle.ndn_tlv.specs.declared.fault.TlvFault.{TlvFault}
use Rattle.ndn_tlv.specs.declared.fault.TlvFault.TheVariants.{Truncated}
use Rattle.ndn_tlv.specs.Element.{Field, IsField, element}
use Rattle.ndn_tlv.specs.Reading.{◌>>=◌, element_at, elements_of, number_at, on_result}
use Rattle.ndn_tlv.proofs.Lengths.{length-element}
use Rattle.ndn_tlv.proofs.Numbers.{length-spelling_nine, length-spelling_one}
use Rattle.ndn_packets.specs.declared.fault.PacketFault.{PacketFault}
use Rattle.ndn_packets.specs.declared.fault.PacketFault.TheVariants.{BadField, TooLong}
use Rattle.ndn_packets.specs.FrameReading.{LinkSoFar, data_of, frame_at, framed_at, interest_of, link_at, link_from, nack_at, nacked_of, no_headers_yet, only_element, outer_of, packet_of, token_at}
use Rattle.ndn_packets.specs.Link.{IsToken}
use Rattle.ndn_packets.specs.Packet.{PlainData, PlainFrame, PlainFramed, AData, AnInterest, framed_with}
use Rattle.ndn_packets.specs.Writing.{lp_text}
use Rattle.ndn_packets.proofs.Wholes.{data_packet}
use Rattle.ndn_packets.proofs.Steps.{good}
use Rattle.forwarder.specs.Event.{Token}
use Rattle.forwarder.proofs.Contents.{begins, element_five, element_six, length-one, link_is, nack_elements, nack_part, nack_part_short, next_element, only, only_one, parts_are, reason_value, sized, token_taken, value, value_short, wrapped}

abbrev token_of : Result PlainFramed PacketFault → Option (List ℕ)
token_of r = on_result (λ f. f.token) (λ _. None) r

token_is : (text : List ℕ) → token_at text ≡ token_of (cond (nat_lt 9000 (length text)) (Err TooLong) (only_element text >>= outer_of text))
unfolding token_at framed_at
token_is text = refl

-- no other token than `token` is read
abbrev Gives : Token → Result PlainFramed PacketFault → Type 0
Gives token r = (t : List ℕ) → token_of r ≡ Some t → token ≡ Some t

-- ---- octets that are not a link packet have no token

-- the octets are no element of the type of a link packet
abbrev IsNoLink : List ℕ → Type 0
IsNoLink text = (e : Field) → only_element text ≡ Ok e → e.0 == 100 ≡ false

no_link_token : (text : List ℕ) → IsNoLink text → token_at text ≡ None
no_link_token text other = token_is text ∙ by_long (nat_lt 9000 (length text))
  where
    by_packet : (r : Result PlainFrame PacketFault) → token_of (r >>= λ frame. good (framed_with None frame)) ≡ None
    by_packet (Ok frame) = refl
    by_packet (Err fault) = refl

    by_element : (r : Result Field PacketFault) → only_element text ≡ r → token_of (r >>= outer_of text) ≡ None
    by_element (Ok e) is =
        ap (λ (b : Bool). token_of (cond b (link_at e.1) (packet_of text e >>= λ frame. good (framed_with None frame)))) (other e is) ∙ by_packet (packet_of text e)
    by_element (Err fault) is = refl

    by_long : (long : Bool) → token_of (cond long (Err TooLong) (only_element text >>= outer_of text)) ≡ None
    by_long true = refl
    by_long false = by_element (only_element text) refl

first_kind : (kind : ℕ) (r : Result (ℕ × List ℕ) TlvFault) (e : Field) → only (r >>= sized kind) ≡ Ok e → e.0 ≡ kind
first_kind kind (Err fault) e is = cc is
first_kind kind (Ok len) e is = by_size (nat_lt (length len.1) len.0) _ _ is
  where
    by_size : (cut : Bool) (value rest : List ℕ) → only (cond cut (Err Truncated) (Ok ((kind, value), rest))) ≡ Ok e → e.0 ≡ kind
    by_size true value rest is = cc is
    by_size false value [] is = (let same : ◌≡◌ {A = Field} (kind, value) e = cc is in sym (ap (λ (f : Field). f.0) same))
    by_size false value (octet ∷ rest) is = cc is

-- octets that begin with the type of an Interest have no token
pub interest_bare : (text : List ℕ) → begins 5 text ≡ true → token_at text ≡ None
interest_bare [] is = cc is
interest_bare (octet ∷ octets) is =
    let read : element_at (octet ∷ octets) ≡ (number_at octets >>= sized 5) = ap (λ (o : ℕ). element_at (o ∷ octets)) (eqb-true octet 5 is) ∙ element_five octets in
    no_link_token (octet ∷ octets) (λ e one. ap (λ (k : ℕ). k == 100) (first_kind 5 (number_at octets) e (sym (ap only read) ∙ one)))

-- octets that begin with the type of a Data have no token
pub data_bare : (text : List ℕ) → begins 6 text ≡ true → token_at text ≡ None
data_bare [] is = cc is
data_bare (octet ∷ octets) is =
    let read : element_at (octet ∷ octets) ≡ (number_at octets >>= sized 6) = ap (λ (o : ℕ). element_at (o ∷ octets)) (eqb-true octet 6 is) ∙ element_six octets in
    no_link_token (octet ∷ octets) (λ e one. ap (λ (k : ℕ). k == 100) (first_kind 6 (number_at octets) e (sym (ap only read) ∙ one)))

-- the octets of a Data that was read have no token
pub read_bare : (text whole : List ℕ) (d : PlainData) → frame_at text ≡ Ok (AData whole d) → token_at whole ≡ None
read_bare text whole d read = no_link_token whole (λ e one. by_kind e (e.0 == 5) refl (e.0 == 6) refl (ap (λ (r : Result Field PacketFault). r >>= packet_of whole) (sym one) ∙ data_packet text whole d read))
  where
    by_kind : (e : Field) (b : Bool) → e.0 == 5 ≡ b → (c : Bool) → e.0 == 6 ≡ c
        → cond b (interest_of whole e.1 >>= λ i. Ok (AnInterest whole i)) (cond c (data_of whole e.1 >>= λ d. Ok (AData whole d)) (Err BadField)) ≡ Ok (AData whole d) → e.0 == 100 ≡ false
    by_kind e true is c other h = ap (λ (k : ℕ). k == 100) (eqb-true e.0 5 is)
    by_kind e false not true is h = ap (λ (k : ℕ). k == 100) (eqb-true e.0 6 is)
    by_kind e false not false other h = cc h

-- ---- a packet that is sent back

wrapped_gives : (token packet : List ℕ) → IsToken token → (t : List ℕ) → token_at (wrapped token packet) ≡ Some t → Some token ≡ Some t
wrapped_gives token packet is t e = by_long (nat_lt 9000 (length (wrapped token packet))) refl (sym (token_is (wrapped token packet)) ∙ e)
  where
    by_frame : (r : Result PlainFrame PacketFault) → Gives (Some token) (r >>= λ frame. Ok (framed_with (Some token) frame))
    by_frame (Ok frame) t e = e
    by_frame (Err fault) t e = cc e

    by_long : (long : Bool) → nat_lt 9000 (length (wrapped token packet)) ≡ long
        → token_of (cond long (Err TooLong) (only_element (wrapped token packet) >>= outer_of (wrapped token packet))) ≡ Some t → Some token ≡ Some t
    by_long true long e = cc e
    by_long false long e =
        let small = ltb-false 9000 (length (wrapped token packet)) long in
        let few = value_short token packet is small in
        let outer : IsField (100, value token packet is small) = (omega arith, omega arith, omega (arith, few)) in
        by_frame (only_element packet >>= packet_of packet) t
        (sym (ap (λ (r : Result Field PacketFault). token_of (r >>= outer_of (wrapped token packet))) (only_one (100, value token packet is small) outer)
        ∙ ap token_of (link_is (value token packet is small) ∙ ap (link_from no_headers_yet) (parts_are token packet is small)
        ∙ ap (λ (r : Result LinkSoFar PacketFault). r >>= λ s. link_from s (Ok (80, packet) ∷ [])) (token_taken token is))) ∙ e)

-- if a packet without a token is sent back, no other token is read from what is sent than the token
-- with which the packet is sent
pub back_gives : (token : Token) (packet : List ℕ) → IfSome token IsToken → token_at packet ≡ None → (t : List ℕ) → token_at (lp_text token None packet) ≡ Some t → token ≡ Some t
back_gives None packet is bare t e = cc (bare, e)
back_gives (Some token) packet is bare t e = wrapped_gives token packet is t e

-- ---- a Nack

module _ (reason : ℕ) (packet : List ℕ) (short : length packet ≤ 8800) where
  -- a link packet with a TLV-VALUE of at most 8,950 octets is read element by element
  read_by : (value : List ℕ) → length value ≤ 8950 → token_at (element (100, value)) ≡ token_of (link_from no_headers_yet (elements_of value))
  read_by value few =
      let text = element (100, value) in
      let outer : IsField (100, value) = (omega arith, omega arith, omega (arith, few)) in
      let fits = le-ltb 9000 (length text) (omega (arith, few, length-element 100 value, length-spelling_one 100 (lit< tt), length-spelling_nine (length value))) in
      token_is text
      ∙ ap (λ (b : Bool). token_of (cond b (Err TooLong) (only_element text >>= outer_of text))) fits
      ∙ ap (λ (r : Result Field PacketFault). token_of (r >>= outer_of text)) (only_one (100, value) outer)
      ∙ ap token_of (link_is value)

  elements_give : (token : Token) → Gives token (link_from (record no_headers_yet { token = token }) (Ok (800, reason_value reason) ∷ (Ok (80, packet) ∷ [])))
  elements_give token = by_nack (nack_at (reason_value reason))
    where
      by_frame : (r : Result PlainFrame PacketFault) → Gives token (r >>= λ frame. Ok (framed_with token frame))
      by_frame (Ok frame) t e = e
      by_frame (Err fault) t e = cc e

      by_nack : (r : Result ℕ PacketFault)
          → Gives token ((r >>= λ n. Ok (record no_headers_yet { token = token; nack = Some n })) >>= λ s. link_from s (Ok (80, packet) ∷ []))
      by_nack (Err fault) t e = cc e
      by_nack (Ok n) t e = by_frame (only_element packet >>= nacked_of n packet) t e

  bare_gives : (t : List ℕ) → token_at (element (100, nack_part reason packet short)) ≡ Some t → ◌≡◌ {A = Token} None (Some t)
  bare_gives t e =
      let few = nack_part_short reason packet short in
      elements_give None t
      (sym (read_by (nack_part reason packet short) (omega (arith, few)) ∙ ap (λ (l : List (Result Field TlvFault)). token_of (link_from no_headers_yet l)) (nack_elements reason packet short)) ∙ e)

  token_gives : (token : List ℕ) → IsToken token → (t : List ℕ) → token_at (element (100, element (98, token) ++ nack_part reason packet short)) ≡ Some t → ◌≡◌ {A = Token} (Some token) (Some t)
  token_gives token is t e =
      let few = nack_part_short reason packet short in
      let value = element (98, token) ++ nack_part reason packet short in
      let inner : IsField (98, token) = (omega arith, omega arith, omega (arith, is.1)) in
      let elements = next_element (98, token) (nack_part reason packet short) inner ∙ ap (λ (l : List (Result Field TlvFault)). Ok (98, token) ∷ l) (nack_elements reason packet short) in
      elements_give (Some token) t
      (sym (read_by value (omega (arith, few, length-append (element (98, token)) (nack_part reason packet short), length-one 98 token, is.1))
      ∙ ap (λ (l : List (Result Field TlvFault)). token_of (link_from no_headers_yet l)) elements
      ∙ ap (λ (r : Result LinkSoFar PacketFault). token_of (r >>= λ s. link_from s (Ok (800, reason_value reason) ∷ (Ok (80, packet) ∷ [])))) (token_taken token is)) ∙ e)

-- no other token is read from a Nack than the token with which it is sent
pub nack_gives : (token : Token) (reason : ℕ) (packet : List ℕ) → IfSome token IsToken → length packet ≤ 8800 → (t : List ℕ) → token_at (lp_text token (Some reason) packet) ≡ Some t → token ≡ Some t
nack_gives None reason packet is short t e = bare_gives reason packet short t e
nack_gives (Some token) reason packet is short t e = token_gives reason packet short token is t e
