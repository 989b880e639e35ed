-- Properties of octets that begin with the type of an Interest or of a Data, and of link packets
-- with a Nack header or a token.
use Rattle.std.proofs.Common.{◌≡◌, ℕ, zero, suc, ◌+◌, ◌-◌, ◌^◌, ◌<◌, ◌≤◌, Bool, true, false, cond, not, ltb, List, [], ◌∷◌, ◌++◌, length, take, drop, refl, sym, ap, ◌∙◌, arith, Result, Ok, Err, lit<}
use Rattle.std.specs.Prelude.{◌==◌, ◌&&◌, ◌||◌, Option, None, Some, nat_lt, slice_set, is_some, IfSome}
use Rattle.std.proofs.lemmas.Bool.{eqb-true, ltb-false, le-ltb, le-leb}
use Rattle.std.proofs.lemmas.List.{append-nil, length-append}
use Rattle.ndn_tlv.specs.declared.fault.TlvFault.{TlvFault}
use Rattle.ndn_tlv.specs.declared.fault.TlvFault.TheVariants.{Truncated}
use Rattle.ndn_tlv.specs.Element.{Field, IsField, element}
use Rattle.ndn_tlv.specs.Number.{shortest_nni, spelling}
use Rattle.ndn_tlv.proofs.Integers.{length-shortest_eight}
use Rattle.ndn_tlv.proofs.Lengths.{length-element}
use Rattle.ndn_tlv.proofs.Numbers.{length-spelling_nine, length-spelling_one}
use Rattle.ndn_tlv.specs.Writing.{octets}
use Rattle.ndn_tlv.specs.Reading.{◌>>=◌, element_at, elements_of, number_at, on_result}
use Rattle.ndn_tlv.proofs.Fields.{element_again, elements_of-nil, elements_of-ok}
use Rattle.ndn_packets.specs.declared.fault.PacketFault.{PacketFault}
use Rattle.ndn_packets.specs.declared.fault.PacketFault.TheVariants.{BadField, LpField, Tlv, TooLong}
use Rattle.ndn_packets.specs.FrameReading.{LinkSoFar, data_of, frame_at, framed_at, interest_of, is_token, link_at, link_from, nack_at, nacked_of, no_headers_yet, only_element, outer_of, packet_of, take_header}
use Rattle.ndn_packets.specs.Covered.{from_first}
use Rattle.ndn_packets.specs.Grammar.{IsInterest}
use Rattle.ndn_packets.specs.HopLimit.{hop_place, place_from, place_in}
use Rattle.ndn_packets.specs.Link.{IsToken}
use Rattle.ndn_packets.specs.declared.types.TheConstants.{HOP_LIMIT}
use Rattle.ndn_packets.specs.Packet.{PlainInterest, PlainData, PlainFrame, PlainFramed, AnInterest, AData, ANack, Idle, framed_with}
use Rattle.ndn_packets.specs.Reading.{is_nil}
use Rattle.ndn_packets.specs.Writing.{AreOctets, lp_text}
use Rattle.ndn_packets.proofs.Wholes.{data_alone, data_packet}
use Rattle.ndn_packets.proofs.Packets.{frame_found, frame_of_framed}
use Rattle.ndn_packets.proofs.WrittenLinks.{lp_nack_read}
use Rattle.forwarder.specs.Causes.{is_nack, is_nack_frame, is_nacked}
use Rattle.forwarder.specs.Event.{Token, to_each}
use Rattle.forwarder.specs.NextHops.{sent_on}
use Rattle.forwarder.specs.DataSends.{carries_data, first_element, holds_data, is_data, is_data_frame}

-- whether the first octet exists and equals `kind`
abbrev pub begins : ℕ → List ℕ → Bool
begins kind [] = false
begins kind (octet ∷ octets) = octet == kind

pub begins_interest : (value : List ℕ) → begins 5 (element (5, value)) ≡ true
unfolding spelling
begins_interest value = refl

pub begins_data : (value : List ℕ) → begins 6 (element (6, value)) ≡ true
unfolding spelling
begins_data value = refl

-- ---- octets that begin with the type of an Interest or of a Data

-- The element of type `kind` and the octets after this element, or the fault Truncated if the
-- TLV-VALUE is cut off. `len` is a pair: the TLV-LENGTH, and the octets that begin with the
-- TLV-VALUE.
abbrev pub sized : ℕ → ℕ × List ℕ → Result (Field × List ℕ) TlvFault
sized kind len = cond (ltb (length len.1) len.0) (Err Truncated) (Ok ((kind, take len.0 len.1), drop len.0 len.1))

abbrev pub only : Result (Field × List ℕ) TlvFault → Result Field PacketFault
only r = on_result (λ x. cond (is_nil x.1) (Ok x.0) (Err BadField)) (λ f. Err (Tlv f)) r

abbrev first : Result (Field × List ℕ) TlvFault → Result Field TlvFault
first r = r >>= λ x. Ok x.0

abbrev framed : List ℕ → Bool → Result (Field × List ℕ) TlvFault → Result PlainFrame PacketFault
framed text long r = cond long (Err TooLong) (only r >>= outer_of text) >>= λ f. Ok f.frame

frame_is : (text : List ℕ) → frame_at text ≡ framed text (nat_lt 9000 (length text)) (element_at text)
unfolding frame_at framed_at
frame_is text = refl

pub element_five : (octets : List ℕ) → element_at (5 ∷ octets) ≡ (number_at octets >>= sized 5)
unfolding element_at number_at
element_five octets = refl

pub element_six : (octets : List ℕ) → element_at (6 ∷ octets) ≡ (number_at octets >>= sized 6)
unfolding element_at number_at
element_six octets = refl

-- the result is neither a Nack nor a Data
abbrev IsNeither : Result PlainFrame PacketFault → Type 0
IsNeither r = (is_nack_frame r ≡ false) × (is_data_frame r ≡ false)

five : (text : List ℕ) (long : Bool) (r : Result (ℕ × List ℕ) TlvFault) → IsNeither (framed text long (r >>= sized 5))
five text true r = (refl, refl)
five text false (Err f) = (refl, refl)
five text false (Ok len) = by_size (ltb (length len.1) len.0) (take len.0 len.1) (drop len.0 len.1)
  where
    by_read : (r : Result PlainInterest PacketFault) → IsNeither (((r >>= λ i. Ok (AnInterest text i)) >>= λ f. Ok (framed_with None f)) >>= λ f. Ok f.frame)
    by_read (Ok i) = (refl, refl)
    by_read (Err f) = (refl, refl)

    by_size : (cut : Bool) (value rest : List ℕ) → IsNeither (framed text false (cond cut (Err Truncated) (Ok ((5, value), rest))))
    by_size true value rest = (refl, refl)
    by_size false value [] = by_read (interest_of text value)
    by_size false value (octet ∷ rest) = (refl, refl)

-- Let the first element of octets that begin with the type of an Interest be read. The result is an
-- element of this type, or a fault. So `holds_data` is false for the result.
five_holds : (r : Result (ℕ × List ℕ) TlvFault) → holds_data (first (r >>= sized 5)) ≡ false
five_holds (Err f) = refl
five_holds (Ok len) = by_size (ltb (length len.1) len.0) (take len.0 len.1) (drop len.0 len.1)
  where
    by_size : (cut : Bool) (value rest : List ℕ) → holds_data (first (cond cut (Err Truncated) (Ok ((5, value), rest)))) ≡ false
    by_size true value rest = refl
    by_size false value rest = refl

six : (text : List ℕ) (long : Bool) (r : Result (ℕ × List ℕ) TlvFault) → is_nack_frame (framed text long (r >>= sized 6)) ≡ false
six text true r = refl
six text false (Err f) = refl
six text false (Ok len) = by_size (ltb (length len.1) len.0) (take len.0 len.1) (drop len.0 len.1)
  where
    by_read : (r : Result PlainData PacketFault) → is_nack_frame (((r >>= λ d. Ok (AData text d)) >>= λ f. Ok (framed_with None f)) >>= λ f. Ok f.frame) ≡ false
    by_read (Ok d) = refl
    by_read (Err f) = refl

    by_size : (cut : Bool) (value rest : List ℕ) → is_nack_frame (framed text false (cond cut (Err Truncated) (Ok ((6, value), rest)))) ≡ false
    by_size true value rest = refl
    by_size false value [] = by_read (data_of text value)
    by_size false value (octet ∷ rest) = refl

-- If `text` is not read as a Data, and `holds_data` is false for the result of reading the first
-- element of `text`, then `is_data` is false for `text`.
no_data : (text : List ℕ) → is_data_frame (frame_at text) ≡ false → holds_data (first_element text) ≡ false → is_data text ≡ false
no_data text read typed = ap (λ (b : Bool). b || holds_data (first_element text)) read ∙ typed

-- `is_data` is true for octets that are read as a Data
pub read_is_data : (text whole : List ℕ) (d : PlainData) → frame_at text ≡ Ok (AData whole d) → is_data text ≡ true
read_is_data text whole d read = ap (λ (r : Result PlainFrame PacketFault). is_data_frame r || holds_data (first_element text)) read

-- octets that begin with the type of an Interest are neither a Nack nor a Data
pub interest_is_neither : (text : List ℕ) → begins 5 text ≡ true → (is_nack text ≡ false) × (is_data text ≡ false)
interest_is_neither [] is = cc is
interest_is_neither (octet ∷ octets) is =
    let text = octet ∷ octets in
    let kind : octet ≡ 5 = eqb-true octet 5 is in
    let read : element_at text ≡ (number_at octets >>= sized 5) = ap (λ (o : ℕ). element_at (o ∷ octets)) kind ∙ element_five octets in
    let frame : frame_at text ≡ framed text (nat_lt 9000 (length text)) (number_at octets >>= sized 5) = frame_is text ∙ ap (framed text (nat_lt 9000 (length text))) read in
    let neither = five text (nat_lt 9000 (length text)) (number_at octets) in (
      ap is_nack_frame frame ∙ neither.0,
      no_data text (ap is_data_frame frame ∙ neither.1) (ap (λ (r : Result (Field × List ℕ) TlvFault). holds_data (first r)) read ∙ five_holds (number_at octets)),
    )

-- octets that begin with the type of a Data are not a Nack
pub data_is_no_nack : (text : List ℕ) → begins 6 text ≡ true → is_nack text ≡ false
data_is_no_nack [] is = cc is
data_is_no_nack (octet ∷ octets) is =
    let text = octet ∷ octets in
    let kind : octet ≡ 6 = eqb-true octet 6 is in
    let read : element_at text ≡ (number_at octets >>= sized 6) = ap (λ (o : ℕ). element_at (o ∷ octets)) kind ∙ element_six octets in
    let frame : frame_at text ≡ framed text (nat_lt 9000 (length text)) (number_at octets >>= sized 6) = frame_is text ∙ ap (framed text (nat_lt 9000 (length text))) read in
    ap is_nack_frame frame ∙ six text (nat_lt 9000 (length text)) (number_at octets)

six_whole : (text : List ℕ) (long : Bool) (r : Result (ℕ × List ℕ) TlvFault) (whole : List ℕ) (d : PlainData) → framed text long (r >>= sized 6) ≡ Ok (AData whole d) → text ≡ whole
six_whole text true r whole d e = cc e
six_whole text false (Err f) whole d e = cc e
six_whole text false (Ok len) whole d e = by_size (ltb (length len.1) len.0) (take len.0 len.1) (drop len.0 len.1) e
  where
    by_read : (r : Result PlainData PacketFault) → (((r >>= λ d. Ok (AData text d)) >>= λ f. Ok (framed_with None f)) >>= λ f. Ok f.frame) ≡ Ok (AData whole d) → text ≡ whole
    by_read (Ok other) e = cc e
    by_read (Err f) e = cc e

    by_size : (cut : Bool) (value rest : List ℕ) → framed text false (cond cut (Err Truncated) (Ok ((6, value), rest))) ≡ Ok (AData whole d) → text ≡ whole
    by_size true value rest e = cc e
    by_size false value [] e = by_read (data_of text value) e
    by_size false value (octet ∷ rest) e = cc e

-- if `text` begins with the type of a Data, and is read as the Data with the octets `whole`, then
-- `text` equals `whole`
data_is_whole : (text whole : List ℕ) (d : PlainData) → begins 6 text ≡ true → frame_at text ≡ Ok (AData whole d) → text ≡ whole
data_is_whole [] whole d is read = cc is
data_is_whole (octet ∷ octets) whole d is read =
    let text = octet ∷ octets in
    let kind : octet ≡ 6 = eqb-true octet 6 is in
    let at : element_at text ≡ (number_at octets >>= sized 6) = ap (λ (o : ℕ). element_at (o ∷ octets)) kind ∙ element_six octets in
    six_whole text (nat_lt 9000 (length text)) (number_at octets) whole d (sym (frame_is text ∙ ap (framed text (nat_lt 9000 (length text))) at) ∙ read)

-- ---- an Interest that is sent on

-- for octets that are not empty, the index that `hop_place` returns is greater than 0
pub hop_place_is_later : (text : List ℕ) → 0 < length text → 0 < hop_place text
hop_place_is_later text some = by_frame (frame_at text)
  where
    by_from : (from : Option (List ℕ)) → 0 < place_from text from
    by_from None = some
    by_from (Some from) = omega arith

    by_limit : (b : Bool) (from : Option (List ℕ)) → 0 < cond b (place_from text from) (length text)
    by_limit true from = by_from from
    by_limit false from = some

    by_frame : (r : Result PlainFrame PacketFault) → 0 < place_in text r
    by_frame (Ok (AnInterest whole i)) =
        by_limit ((length whole == length text) && is_some i.hop_limit) (on_result (λ outer. from_first HOP_LIMIT outer.0.1) (λ _. None) (element_at text))
    by_frame (Ok (AData whole d)) = some
    by_frame (Ok (ANack reason whole i)) = some
    by_frame (Ok Idle) = some
    by_frame (Err fault) = some

begins_still : (kind : ℕ) (text : List ℕ) (at octet : ℕ) → 0 < at → begins kind (slice_set text at octet) ≡ begins kind text
begins_still kind [] at octet low = refl
begins_still kind (x ∷ text) zero octet low = absurd (omega (arith, low))
begins_still kind (x ∷ text) (suc at) octet low = refl

begins_some : (kind : ℕ) (text : List ℕ) → begins kind text ≡ true → 0 < length text
begins_some kind [] is = cc is
begins_some kind (x ∷ text) is = omega arith

-- octets that begin with the type of an Interest still begin with this type when they are sent on
pub sent_on_begins : (whole : List ℕ) (limit : Option ℕ) → begins 5 whole ≡ true → begins 5 (sent_on whole limit) ≡ true
sent_on_begins whole None is = is
sent_on_begins whole (Some n) is = begins_still 5 whole (hop_place whole) (n - 1) (hop_place_is_later whole (begins_some 5 whole is)) ∙ is

-- the octets of an Interest begin with the type of an Interest
pub spelled_begins : (whole : List ℕ) (i : PlainInterest) → IsInterest whole i → begins 5 whole ≡ true
spelled_begins whole i is = ap (begins 5) is.fields.outer.1 ∙ begins_interest is.fields.value

-- if `octets` are read as the Interest with the octets `whole`, then `whole` begins with the type
-- of an Interest
pub read_begins : (octets whole : List ℕ) (i : PlainInterest) → AreOctets octets → frame_at octets ≡ Ok (AnInterest whole i) → begins 5 whole ≡ true
read_begins octets whole i fits read = spelled_begins whole i (frame_found octets (AnInterest whole i) fits read).1.0

pub none_nacked : (faces octets : List ℕ) → is_nack octets ≡ false → is_nacked (to_each faces octets) ≡ false
none_nacked [] octets other = refl
none_nacked (f ∷ faces) octets other = ap (λ (b : Bool). b || is_nacked (to_each faces octets)) other ∙ none_nacked faces octets other

-- ---- a link packet with a Nack header

-- octets that are exactly one valid element are read as this element
pub only_one : (f : Field) → IsField f → only_element (element f) ≡ Ok f
only_one f is = ap (λ (text : List ℕ). only (element_at text)) (sym (append-nil (element f))) ∙ ap only (element_again f [] is)

first_one : (f : Field) → IsField f → first_element (element f) ≡ Ok f
first_one f is = ap (λ (text : List ℕ). first (element_at text)) (sym (append-nil (element f))) ∙ ap first (element_again f [] is)

pub link_is : (value : List ℕ) → link_at value ≡ link_from no_headers_yet (elements_of value)
unfolding link_at
link_is value = refl

-- if octets begin with an element, then this element is read first, and after it the elements of
-- the remaining octets
pub next_element : (f : Field) (rest : List ℕ) → IsField f → elements_of (element f ++ rest) ≡ Ok f ∷ elements_of rest
next_element f rest is = elements_of-ok (element f ++ rest) f rest (element_again f rest is)

abbrev pub reason_value : ℕ → List ℕ
reason_value reason = octets ((801, shortest_nni reason) ∷ [])

length-reason_value : (reason : ℕ) → length (reason_value reason) ≤ 26
length-reason_value reason =
    let whole = length-append (element (801, shortest_nni reason)) [] in
    let part = length-element 801 (shortest_nni reason) in
    omega (arith, whole, part, length-spelling_nine 801, length-spelling_nine (length (shortest_nni reason)), length-shortest_eight reason)

pub length-one : (kind : ℕ) (value : List ℕ) → length (element (kind, value)) ≤ length value + 18
length-one kind value = omega (arith, length-element kind value, length-spelling_nine kind, length-spelling_nine (length value))

is_one : (token : List ℕ) → IsToken token → is_token token ≡ true
is_one token is = rw (le-leb 1 (length token) is.0, le-leb (length token) 32 is.1) refl

-- a valid token is accepted as the first header of a link packet
pub token_taken : (token : List ℕ) → IsToken token → take_header no_headers_yet (98, token) ≡ Ok (record no_headers_yet { token = Some token })
token_taken token is = ap (λ (b : Bool). cond (not b) (Err LpField) (Ok (record no_headers_yet { token = Some token }))) (is_one token is)

-- In this module, a link packet has a Nack header and contains the octets `packet`, of which there
-- are at most 8,800. This link packet is not a Data, whether the link packet has a token or not.
module _ (reason : ℕ) (packet : List ℕ) (short : length packet ≤ 8800) where
  abbrev pub last_part : List ℕ
  last_part = element (80, packet) ++ []

  abbrev pub nack_part : List ℕ
  nack_part = element (800, reason_value reason) ++ last_part

  nack_field_is : IsField (800, reason_value reason)
  nack_field_is = (let few = length-reason_value reason in (omega arith, omega arith, omega (arith, few)))

  pub nack_part_short : length nack_part ≤ 8900
  nack_part_short =
      let few = length-reason_value reason in
      omega (arith, few, length-append (element (800, reason_value reason)) last_part, length-append (element (80, packet)) [], length-one 800 (reason_value reason), length-one 80 packet)

  -- a link packet with a Nack header and without a token carries no Data
  carries_none : carries_data (elements_of nack_part) ≡ false
  carries_none = ap carries_data (next_element (800, reason_value reason) last_part nack_field_is)

  pub nack_elements : elements_of nack_part ≡ Ok (800, reason_value reason) ∷ (Ok (80, packet) ∷ [])
  nack_elements =
      let fragment : IsField (80, packet) = (omega arith, omega arith, omega (arith, short)) in
      next_element (800, reason_value reason) last_part nack_field_is
      ∙ ap (λ (l : List (Result Field TlvFault)). Ok (800, reason_value reason) ∷ l)
      (next_element (80, packet) [] fragment ∙ ap (λ (l : List (Result Field TlvFault)). Ok (80, packet) ∷ l) elements_of-nil)

  -- the result of reading a link packet is not a Data
  abbrev NoDataIn : Result PlainFramed PacketFault → Type 0
  NoDataIn r = is_data_frame (r >>= λ f. Ok f.frame) ≡ false

  nack_read : (token : Token) → NoDataIn (link_from (record no_headers_yet { token = token }) (Ok (800, reason_value reason) ∷ (Ok (80, packet) ∷ [])))
  nack_read token = by_nack (nack_at (reason_value reason))
    where
      by_interest : (n : ℕ) (r : Result PlainInterest PacketFault) → NoDataIn ((r >>= λ i. Ok (ANack n packet i)) >>= λ f. Ok (framed_with token f))
      by_interest n (Ok i) = refl
      by_interest n (Err f) = refl

      by_kind : (n : ℕ) (e : Field) (b : Bool) → NoDataIn (cond b (interest_of packet e.1 >>= λ i. Ok (ANack n packet i)) (Err BadField) >>= λ f. Ok (framed_with token f))
      by_kind n e true = by_interest n (interest_of packet e.1)
      by_kind n e false = refl

      by_element : (n : ℕ) (r : Result Field PacketFault) → NoDataIn ((r >>= nacked_of n packet) >>= λ f. Ok (framed_with token f))
      by_element n (Err f) = refl
      by_element n (Ok e) = by_kind n e (e.0 == 5)

      by_nack : (r : Result ℕ PacketFault)
          → NoDataIn ((r >>= λ n. Ok (record no_headers_yet { token = token; nack = Some n })) >>= λ s. link_from s (Ok (80, packet) ∷ []))
      by_nack (Err f) = refl
      by_nack (Ok n) = by_element n (only_element packet)

  -- if the TLV-VALUE of a link packet has at most 8,950 octets, the link packet is read element by
  -- element
  read_by : (value : List ℕ) → length value ≤ 8950 → only_element (element (100, value)) ≡ Ok (100, value)
      → frame_at (element (100, value)) ≡ (link_from no_headers_yet (elements_of value) >>= λ f. Ok f.frame)
  read_by value few one =
      let fits = le-ltb 9000 (length (element (100, value))) (omega (arith, few, length-element 100 value, length-spelling_one 100 (lit< tt), length-spelling_nine (length value))) in
      frame_is (element (100, value))
      ∙ ap (λ (b : Bool). framed (element (100, value)) b (element_at (element (100, value)))) fits
      ∙ ap (λ (r : Result Field PacketFault). (r >>= outer_of (element (100, value))) >>= λ f. Ok f.frame) one
      ∙ ap (λ (r : Result PlainFramed PacketFault). r >>= λ f. Ok f.frame) (link_is value)

  bare_nack : is_data (element (100, nack_part)) ≡ false
  bare_nack =
      let small = nack_part_short in
      let outer : IsField (100, nack_part) = (omega arith, omega arith, omega (arith, small)) in
      let one = only_one (100, nack_part) outer in
      no_data (element (100, nack_part))
      (ap is_data_frame (read_by nack_part (omega (arith, small)) one ∙ ap (λ (l : List (Result Field TlvFault)). link_from no_headers_yet l >>= λ f. Ok f.frame) nack_elements) ∙ nack_read None)
      (ap holds_data (first_one (100, nack_part) outer) ∙ carries_none)

  token_nack : (token : List ℕ) → IsToken token → is_data (element (100, element (98, token) ++ nack_part)) ≡ false
  token_nack token is =
      let small = nack_part_short in
      let value = element (98, token) ++ nack_part in
      let sum = length-append (element (98, token)) nack_part in
      let part = length-one 98 token in
      let few : length value ≤ 8950 = omega (arith, small, sum, part, is.1) in
      let outer : IsField (100, value) = (omega arith, omega arith, omega (arith, few)) in
      let inner : IsField (98, token) = (omega arith, omega arith, omega (arith, is.1)) in
      let one = only_one (100, value) outer in
      let elements = next_element (98, token) nack_part inner in
      let header : take_header no_headers_yet (98, token) ≡ Ok (record no_headers_yet { token = Some token }) = token_taken token is in
      no_data (element (100, value))
      (ap is_data_frame (read_by value few one
      ∙ ap (λ (l : List (Result Field TlvFault)). link_from no_headers_yet l >>= λ f. Ok f.frame) (elements ∙ ap (λ (l : List (Result Field TlvFault)). Ok (98, token) ∷ l) nack_elements)
      ∙ ap (λ (r : Result LinkSoFar PacketFault). (r >>= λ s. link_from s (Ok (800, reason_value reason) ∷ (Ok (80, packet) ∷ []))) >>= λ f. Ok f.frame) header) ∙ nack_read (Some token))
      (ap holds_data (first_one (100, value) outer) ∙ ap carries_data elements ∙ carries_none)

-- a Nack around at most 8,800 octets, with a valid token or without a token, is not a Data
pub nack_is_no_data : (token : Token) (reason : ℕ) (interest : List ℕ) → IfSome token IsToken → length interest ≤ 8800 → is_data (lp_text token (Some reason) interest) ≡ false
nack_is_no_data None reason interest is short = bare_nack reason interest short
nack_is_no_data (Some token) reason interest is short = token_nack reason interest short token is

-- a Nack around an Interest is read as a Nack, if its reason is below 2^64 and its token, if any,
-- is valid
pub nack_is_nack : (token : Token) (reason : ℕ) (interest : List ℕ) (i : PlainInterest) → IfSome token IsToken → IfSome token AreOctets → IsInterest interest i → reason < 2 ^ 64
    → is_nack (lp_text token (Some reason) interest) ≡ true
nack_is_nack token reason interest i is fits read small =
    ap is_nack_frame (frame_of_framed (lp_text token (Some reason) interest) _ (lp_nack_read token reason interest i is fits small read))

-- ---- a link packet that has a token and contains a packet

abbrev pub wrapped : List ℕ → List ℕ → List ℕ
wrapped token packet = element (100, element (98, token) ++ (element (80, packet) ++ []))

wrapped_short : (token packet : List ℕ) → IsToken token → length packet ≤ 8800 → length (wrapped token packet) ≤ 9000
wrapped_short token packet is short =
    let after = element (80, packet) ++ [] in
    let value = element (98, token) ++ after in
    omega (
      arith,
      length-append (element (98, token)) after,
      length-append (element (80, packet)) [],
      length-one 98 token,
      length-one 80 packet,
      is.1,
      short,
      length-element 100 value,
      length-spelling_one 100 (lit< tt),
      length-spelling_nine (length value),
    )

module _ (token packet : List ℕ) (is : IsToken token) (small : length (wrapped token packet) ≤ 9000) where
  abbrev pub after_token : List ℕ
  after_token = element (80, packet) ++ []

  abbrev pub value : List ℕ
  value = element (98, token) ++ after_token

  pub value_short : length value ≤ 9000
  value_short = omega (arith, small, length-element 100 value)

  packet_short : length packet ≤ 9000
  packet_short =
      let few = value_short in
      omega (arith, few, length-append (element (98, token)) after_token, length-append (element (80, packet)) [], length-element 80 packet)

  pub parts_are : elements_of value ≡ Ok (98, token) ∷ (Ok (80, packet) ∷ [])
  parts_are =
      let few = packet_short in
      let first : IsField (98, token) = (omega arith, omega arith, omega (arith, is.1)) in
      let second : IsField (80, packet) = (omega arith, omega arith, omega (arith, few)) in
      next_element (98, token) after_token first
      ∙ ap (λ (l : List (Result Field TlvFault)). Ok (98, token) ∷ l) (next_element (80, packet) [] second ∙ ap (λ (l : List (Result Field TlvFault)). Ok (80, packet) ∷ l) elements_of-nil)

  -- reading a link packet that has a token and contains `packet` has the same result as reading
  -- `packet` as one element that is an Interest or a Data
  pub wrapped_is : frame_at (wrapped token packet) ≡ (((only_element packet >>= packet_of packet) >>= λ f. Ok (framed_with (Some token) f)) >>= λ f. Ok f.frame)
  wrapped_is =
      let few = value_short in
      let outer : IsField (100, value) = (omega arith, omega arith, omega (arith, few)) in
      frame_is (wrapped token packet)
      ∙ ap (λ (b : Bool). framed (wrapped token packet) b (element_at (wrapped token packet))) (le-ltb 9000 (length (wrapped token packet)) small)
      ∙ ap (λ (r : Result Field PacketFault). (r >>= outer_of (wrapped token packet)) >>= λ f. Ok f.frame) (only_one (100, value) outer)
      ∙ ap (λ (r : Result PlainFramed PacketFault). r >>= λ f. Ok f.frame)
      (link_is value ∙ ap (link_from no_headers_yet) parts_are ∙ ap (λ (r : Result LinkSoFar PacketFault). r >>= λ s. link_from s (Ok (80, packet) ∷ [])) (token_taken token is))

-- Let `packet` have at most 8,800 octets and not be a Nack. If `packet` is sent back, with a valid
-- token or without a token, then what is sent is not a Nack.
pub back_is_no_nack : (token : Token) (packet : List ℕ) → IfSome token IsToken → length packet ≤ 8800 → is_nack packet ≡ false → is_nack (lp_text token None packet) ≡ false
back_is_no_nack None packet is short other = other
back_is_no_nack (Some token) packet is short other = ap is_nack_frame (wrapped_is token packet is (wrapped_short token packet is short)) ∙ by_element (only_element packet)
  where
    by_interest : (r : Result PlainInterest PacketFault) → is_nack_frame (((r >>= λ i. Ok (AnInterest packet i)) >>= λ f. Ok (framed_with (Some token) f)) >>= λ f. Ok f.frame) ≡ false
    by_interest (Ok i) = refl
    by_interest (Err f) = refl

    by_data : (r : Result PlainData PacketFault) → is_nack_frame (((r >>= λ d. Ok (AData packet d)) >>= λ f. Ok (framed_with (Some token) f)) >>= λ f. Ok f.frame) ≡ false
    by_data (Ok d) = refl
    by_data (Err f) = refl

    by_kind : (e : Field) (b c : Bool) → is_nack_frame (((cond b (interest_of packet e.1 >>= λ i. Ok (AnInterest packet i)) (cond c (data_of packet e.1 >>= λ d. Ok (AData packet d)) (Err BadField)))
        >>= λ f. Ok (framed_with (Some token) f)) >>= λ f. Ok f.frame) ≡ false
    by_kind e true c = by_interest (interest_of packet e.1)
    by_kind e false true = by_data (data_of packet e.1)
    by_kind e false false = refl

    by_element : (r : Result Field PacketFault) → is_nack_frame (((r >>= packet_of packet) >>= λ f. Ok (framed_with (Some token) f)) >>= λ f. Ok f.frame) ≡ false
    by_element (Err f) = refl
    by_element (Ok e) = by_kind e (e.0 == 5) (e.0 == 6)

-- Let `octets` be read as the Data with the octets `whole`, of which there are at most 8,800. If
-- `whole` is sent back, with a valid token or without a token, then what is sent is read as the
-- same Data.
pub back_reads : (token : Token) (octets whole : List ℕ) (d : PlainData) → IfSome token IsToken → length whole ≤ 8800 → frame_at octets ≡ Ok (AData whole d)
    → frame_at (lp_text token None whole) ≡ Ok (AData whole d)
back_reads None octets whole d is short read = data_alone octets whole d read
back_reads (Some token) octets whole d is short read =
    wrapped_is token whole is (wrapped_short token whole is short) ∙ ap (λ (r : Result PlainFrame PacketFault). (r >>= λ f. Ok (framed_with (Some token) f)) >>= λ f. Ok f.frame) (data_packet octets whole d read)

-- a text that is read as a Data has at most 9,000 octets
never_long : (text whole : List ℕ) (d : PlainData) → frame_at text ≡ Ok (AData whole d) → length text ≤ 9000
never_long text whole d read = by_long (nat_lt 9000 (length text)) refl
  where
    by_long : (long : Bool) → nat_lt 9000 (length text) ≡ long → length text ≤ 9000
    by_long false e = ltb-false 9000 (length text) e
    by_long true e = (let none = frame_is text ∙ ap (λ (b : Bool). framed text b (element_at text)) e in cc (none, read))

-- Let a packet that begins with the type of a Data be sent back, with a valid token or without a
-- token. If what is sent is read as a Data, the packet is exactly the octets of that Data.
pub back_holds : (token : Token) (packet whole : List ℕ) (d : PlainData) → IfSome token IsToken → begins 6 packet ≡ true → frame_at (lp_text token None packet) ≡ Ok (AData whole d)
    → packet ≡ whole
back_holds None packet whole d is begun read = data_is_whole packet whole d begun read
back_holds (Some token) packet whole d is begun read =
    by_element (only_element packet) (sym (wrapped_is token packet is (never_long (wrapped token packet) whole d read)) ∙ read)
  where
    by_interest : (r : Result PlainInterest PacketFault) → (((r >>= λ i. Ok (AnInterest packet i)) >>= λ f. Ok (framed_with (Some token) f)) >>= λ f. Ok f.frame) ≡ Ok (AData whole d) → packet ≡ whole
    by_interest (Ok i) e = cc e
    by_interest (Err f) e = cc e

    by_data : (r : Result PlainData PacketFault) → (((r >>= λ d. Ok (AData packet d)) >>= λ f. Ok (framed_with (Some token) f)) >>= λ f. Ok f.frame) ≡ Ok (AData whole d) → packet ≡ whole
    by_data (Ok other) e = cc e
    by_data (Err f) e = cc e

    by_kind : (e : Field) (b c : Bool) → (((cond b (interest_of packet e.1 >>= λ i. Ok (AnInterest packet i)) (cond c (data_of packet e.1 >>= λ d. Ok (AData packet d)) (Err BadField)))
        >>= λ f. Ok (framed_with (Some token) f)) >>= λ f. Ok f.frame) ≡ Ok (AData whole d) → packet ≡ whole
    by_kind e true c is = by_interest (interest_of packet e.1) is
    by_kind e false true is = by_data (data_of packet e.1) is
    by_kind e false false is = cc is

    by_element : (r : Result Field PacketFault) → (((r >>= packet_of packet) >>= λ f. Ok (framed_with (Some token) f)) >>= λ f. Ok f.frame) ≡ Ok (AData whole d) → packet ≡ whole
    by_element (Err f) e = cc e
    by_element (Ok field) e = by_kind field (field.0 == 5) (field.0 == 6) e
