-- The position of the HopLimit in an Interest, and the effect of changing the HopLimit.
use Rattle.std.proofs.Common.{◌≡◌, ℕ, zero, suc, ◌+◌, ◌-◌, ◌<◌, ◌≤◌, Bool, true, false, cond, eqb, List, [], ◌∷◌, ◌++◌, length, get_or, Option, None, Some, Result, Ok, Err, refl, sym, ap, subst, ◌∙◌, append_assoc, arith, inl, inr, eq-eqb}
use Rattle.std.specs.Prelude.{is_some, slice_set, slice_index, ◌&&◌}
use Rattle.std.specs.List.{flat_map, AllByRecursion}
use Rattle.std.proofs.Math.Seq.{set-append_seam, get_or-append_seam}
use Rattle.std.proofs.lemmas.Bool.{eqb-true, eqb-false, ne_eqb}
use Rattle.std.proofs.lemmas.Grind.{flat_map-append}
use Rattle.std.proofs.lemmas.List.{length-append}
use Rattle.sha2.specs.Sha256.{sha256}
use Rattle.ndn_tlv.specs.Number.{spelling}
use Rattle.ndn_tlv.specs.Element.{Field, IsField, element}
use Rattle.ndn_tlv.specs.Reading.{on_result, element_at}
use Rattle.ndn_tlv.proofs.Numbers.{IsBytes, IsBytes-append, IsBytes-back, length-spelling_pos}
use Rattle.ndn_packets.specs.declared.fault.PacketFault.{PacketFault}
use Rattle.ndn_packets.specs.Packet.{PlainInterest, PlainFrame, AnInterest, AData, ANack, Idle}
use Rattle.ndn_tlv.specs.Writing.{optional, flag}
use Rattle.ndn_packets.specs.Fields.{Fields, is_even_high, interest_schema}
use Rattle.ndn_packets.specs.Grammar.{IsOctet, IsDigested, from_parameters, IsInterest}
use Rattle.ndn_packets.specs.Link.{IsLinkPacket, IsFrame}
use Rattle.ndn_packets.specs.FrameReading.{frame_at}
use Rattle.ndn_packets.specs.Covered.{from_first}
use Rattle.ndn_packets.specs.HopLimit.{HasHopLimit, place_from, place_in, hop_place, with_octet, with_limit}
use Rattle.ndn_packets.proofs.Steps.{some_is, none_is_not_some, IsBytes-front}
use Rattle.ndn_packets.proofs.Locators.{element_alone}
use Rattle.ndn_packets.proofs.Packets.{frame_found, frame_again}
use Rattle.ndn_packets.proofs.Cuts.{all_front, cut_read, cut_among}
use Rattle.ndn_packets.proofs.Places.{all_both, Others, hop_at, hop_apart, front_fields, back_fields, fields_are, earlier_front}

-- ---- the octets of the HopLimit element

hop_octets : (limit : ℕ) → element (34, limit ∷ []) ≡ 34 ∷ 1 ∷ limit ∷ []
unfolding spelling
hop_octets limit = refl

-- the octets of an Interest before its HopLimit, and the octets from its HopLimit on
module _ (name_value : List ℕ) (front back : List Field) where
  abbrev elements_with : ℕ → List Field
  elements_with limit = front ++ (34, limit ∷ []) ∷ back

  abbrev value_with : ℕ → List ℕ
  value_with limit = flat_map element ((7, name_value) ∷ elements_with limit)

  abbrev inner_front : List ℕ
  inner_front = flat_map element ((7, name_value) ∷ front)

  abbrev from_limit : ℕ → List ℕ
  from_limit limit = 34 ∷ 1 ∷ limit ∷ flat_map element back

  value_is : (limit : ℕ) → value_with limit ≡ inner_front ++ from_limit limit
  value_is limit =
      flat_map-append element ((7, name_value) ∷ front) ((34, limit ∷ []) ∷ back) ∙ ap (λ (octets : List ℕ). inner_front ++ (octets ++ flat_map element back)) (hop_octets limit)

  same_length : (limit other : ℕ) → length (value_with limit) ≡ length (value_with other)
  same_length limit other =
      omega (arith, ap length (value_is limit), ap length (value_is other), length-append inner_front (from_limit limit), length-append inner_front (from_limit other))

  abbrev text_front : ℕ → List ℕ
  text_front limit = spelling 5 ++ (spelling (length (value_with limit)) ++ inner_front)

  -- the octets before the HopLimit are the same for each value of the HopLimit
  text_is : (limit other : ℕ) → element (5, value_with other) ≡ text_front limit ++ from_limit other
  text_is limit other =
      (λ k. spelling 5 ++ (spelling (length (value_with other)) ++ value_is other k))
      ∙ ap (λ n. spelling 5 ++ (spelling n ++ (inner_front ++ from_limit other))) (same_length other limit)
      ∙ simp append_assoc

bytes_with : (limit : ℕ) (after : List ℕ) → limit < 256 → IsBytes after → IsBytes (34 ∷ 1 ∷ limit ∷ after)
bytes_with limit after small fits zero = omega arith
bytes_with limit after small fits (suc zero) = omega arith
bytes_with limit after small fits (suc (suc zero)) = small
bytes_with limit after small fits (suc (suc (suc i))) = fits i

-- `octet_is`: the octet after the type and the length of the HopLimit is the value of the HopLimit.
-- `octet_set`: setting the octet after the type and the length of the HopLimit changes only the
-- value of the HopLimit.
octet_is : (front after : List ℕ) (limit : ℕ) → slice_index (front ++ 34 ∷ 1 ∷ limit ∷ after) (length front + 2) ≡ limit
octet_is front after limit =
    let len : length (front ++ 34 ∷ 1 ∷ []) ≡ length front + 2 = length-append front (34 ∷ 1 ∷ []) in
    (λ k. get_or (sym (append_assoc front (34 ∷ 1 ∷ []) (limit ∷ after)) k) (sym len k) 0) ∙ get_or-append_seam (front ++ 34 ∷ 1 ∷ []) limit after 0

octet_set : (front after : List ℕ) (limit other : ℕ) → slice_set (front ++ 34 ∷ 1 ∷ limit ∷ after) (length front + 2) other ≡ front ++ 34 ∷ 1 ∷ other ∷ after
octet_set front after limit other =
    let len : length (front ++ 34 ∷ 1 ∷ []) ≡ length front + 2 = length-append front (34 ∷ 1 ∷ []) in
    (λ k. slice_set (sym (append_assoc front (34 ∷ 1 ∷ []) (limit ∷ after)) k) (sym len k) other) ∙ set-append_seam (front ++ 34 ∷ 1 ∷ []) limit after other ∙ append_assoc front (34 ∷ 1 ∷ []) (other ∷ after)

-- ---- the octet of the HopLimit in an Interest

limit_is : (value : Option (List ℕ)) (limit : Option ℕ) (n : ℕ) → IsOctet value limit → limit ≡ Some n → value ≡ Some (n ∷ [])
limit_is None limit n is there = absurd (none_is_not_some n (sym is ∙ there))
limit_is (Some v) limit n is there = ap (λ (t : List ℕ). Some t) (is.1 ∙ ap (λ k. k ∷ []) (some_is is.0 n (sym is.2 ∙ there)))

-- if no element in `front` is ApplicationParameters, removing `front` and the HopLimit after it
-- does not change the elements from the ApplicationParameters on
parameters_following : (front back : List Field) (value : List ℕ) → Others 36 front → from_parameters (front ++ (34, value) ∷ back) ≡ from_parameters back
parameters_following [] back value others = refl
parameters_following (e ∷ front) back value others = rw (ne_eqb e.0 36 others.0) (parameters_following front back value others.1)

digested_same : (name elements others : List Field) (parameters : Option (List ℕ)) → from_parameters elements ≡ from_parameters others → IsDigested name elements parameters → IsDigested name others parameters
digested_same name elements others None same h = h
digested_same name elements others (Some p) same h = h ∙ ap (λ (es : List Field). (2, sha256 (flat_map element es)) ∷ []) same

-- The octets `text` are the Interest `i`, whose HopLimit is `limit`. The octet of the HopLimit is
-- at index `hop_place text`. If this octet is replaced by another octet, `text` becomes the
-- Interest `i` with the other octet as its HopLimit.
record HopStands (text : List ℕ) (i : PlainInterest) (limit : ℕ) : Type 0 where
  front : List ℕ
  after : List ℕ
  octets : text ≡ front ++ 34 ∷ 1 ∷ limit ∷ after
  place : hop_place text ≡ length front + 2
  again : (other : ℕ) → other < 256 → IsInterest (front ++ 34 ∷ 1 ∷ other ∷ after) (with_limit i other)

place_is : (text : List ℕ) (i : PlainInterest) (limit : ℕ) (from : List ℕ) (h : IsInterest text i) → i.hop_limit ≡ Some limit → from_first 34 h.fields.value ≡ Some from → hop_place text ≡ (length text - length from) + 2
place_is text i limit from h there read =
    ap (place_in text) (frame_again text (AnInterest text i) (None, (h, inl (refl, refl))))
    ∙ rw (eq-eqb (length text) (length text) refl, there, element_alone text h.fields.value 5 h.fields.outer, read) refl

-- the fields of the Interest after its Name, where the HopLimit has the value `value`
abbrev fields_with : (text : List ℕ) (i : PlainInterest) → IsInterest text i → List ℕ → List Field
fields_with text i h value =
    flag 33 i.can_be_prefix ++ (flag 18 i.must_be_fresh ++ (optional 30 h.hint ++ ((10, i.nonce) ∷ (optional 12 h.lifetime_value ++ ((34, value) ∷ back_fields i.parameters h.info_value h.signature_value)))))

module _ (text : List ℕ) (i : PlainInterest) (limit : ℕ) (h : IsInterest text i) (front back : List Field) (are : h.fields.elements ≡ elements_with h.name_value front back limit) where
  value_there : h.fields.value ≡ value_with h.name_value front back limit
  value_there = h.fields.inner.1 ∙ ap (λ (es : List Field). flat_map element ((7, h.name_value) ∷ es)) are

  octets_are : text ≡ text_front h.name_value front back limit ++ from_limit h.name_value front back limit
  octets_are = h.fields.outer.1 ∙ ap (λ (value : List ℕ). element (5, value)) value_there ∙ text_is h.name_value front back limit limit

  sizes_with : (other : ℕ) → AllByRecursion IsField ((7, h.name_value) ∷ elements_with h.name_value front back other)
  sizes_with other =
      let sizes = subst (AllByRecursion IsField) are h.fields.inner.0.1 in
      let parts = all_front IsField front ((34, limit ∷ []) ∷ back) sizes in
      (h.fields.inner.0.0, all_both IsField front ((34, other ∷ []) ∷ back) parts.0 parts.1)

  bytes_there : (other : ℕ) → other < 256 → IsBytes (text_front h.name_value front back limit ++ from_limit h.name_value front back other)
  bytes_there other small =
      let begin = text_front h.name_value front back limit in
      let fits = subst IsBytes octets_are h.fields.octets in
      let following = IsBytes-back begin (from_limit h.name_value front back limit) fits in
      IsBytes-append begin (from_limit h.name_value front back other) (IsBytes-front begin (from_limit h.name_value front back limit) fits) (bytes_with other (flat_map element back) small (λ k. following (suc (suc (suc k)))))

  with_other : Others 36 front → (other : ℕ) → other < 256 → Fields is_even_high interest_schema (elements_with h.name_value front back other) (fields_with text i h (other ∷ []))
      → IsInterest (text_front h.name_value front back limit ++ from_limit h.name_value front back other) (with_limit i other)
  with_other others other small recognised =
      let begin = text_front h.name_value front back limit in
      let value = value_with h.name_value front back other in
      let same : length value ≡ length h.fields.value = same_length h.name_value front back other limit ∙ ap length (sym value_there) in
      let short : length (begin ++ from_limit h.name_value front back other) ≤ 8800 =
      omega (arith, h.fields.short, ap length octets_are, length-append begin (from_limit h.name_value front back limit), length-append begin (from_limit h.name_value front back other)) in
      record {
        name_value = h.name_value;
        hint = h.hint;
        lifetime_value = h.lifetime_value;
        hop_value = Some (other ∷ []);
        info_value = h.info_value;
        signature_value = h.signature_value;
        fields = record {
          value = value;
          elements = elements_with h.name_value front back other;
          outer = ((h.fields.outer.0.0, h.fields.outer.0.1, omega (arith, same, h.fields.outer.0.2)), sym (text_is h.name_value front back limit other));
          inner = (sizes_with other, refl);
          recognised = recognised;
          short = short;
          octets = bytes_there other small;
        };
        name = h.name;
        named = h.named;
        nonce = h.nonce;
        lifetime = h.lifetime;
        hop_limit = (other, refl, refl);
        digested = digested_same i.name h.fields.elements (elements_with h.name_value front back other) i.parameters
            (ap from_parameters are ∙ parameters_following front back (limit ∷ []) others ∙ sym (parameters_following front back (other ∷ []) others)) h.digested;
        signature = h.signature;
      }

  place_there : i.hop_limit ≡ Some limit → Others 34 front → hop_place text ≡ length (text_front h.name_value front back limit) + 2
  place_there there others =
      let begin = text_front h.name_value front back limit in
      let from = from_limit h.name_value front back limit in
      let cut = cut_among 34 (limit ∷ []) ((7, h.name_value) ∷ h.fields.elements) ((7, h.name_value) ∷ front) back h.fields.inner.0 (ap (λ (es : List Field). (7, h.name_value) ∷ es) are) (eqb-false 7 34 refl, others) in
      let read : from_first 34 h.fields.value ≡ Some from =
      ap (from_first 34) h.fields.inner.1 ∙ cut_read 34 _ _ _ cut ∙ ap (λ (octets : List ℕ). Some (octets ++ flat_map element back)) (hop_octets limit) in
      let place = place_is text i limit from h there read in
      omega (arith, place, ap length octets_are, length-append begin from)

hop_stands : (text : List ℕ) (i : PlainInterest) (limit : ℕ) → IsInterest text i → i.hop_limit ≡ Some limit → HopStands text i limit
hop_stands text i limit h there =
    let early = front_fields i.can_be_prefix i.must_be_fresh h.hint i.nonce h.lifetime_value in
    let late = back_fields i.parameters h.info_value h.signature_value in
    let value_is = limit_is h.hop_value i.hop_limit limit h.hop_limit there in
    let given : Fields is_even_high interest_schema h.fields.elements (fields_with text i h (limit ∷ [])) = subst (Fields is_even_high interest_schema h.fields.elements)
    (λ k. flag 33 i.can_be_prefix ++ (flag 18 i.must_be_fresh ++ (optional 30 h.hint ++ ((10, i.nonce) ∷ (optional 12 h.lifetime_value ++ (optional 34 (value_is k) ++ late)))))) h.fields.recognised in
    let recognised : Fields is_even_high interest_schema h.fields.elements (early ++ (34, limit ∷ []) ∷ late) =
    subst (Fields is_even_high interest_schema h.fields.elements) (fields_are i.can_be_prefix i.must_be_fresh h.hint i.nonce h.lifetime_value ((34, limit ∷ []) ∷ late)) given in
    let at = hop_at is_even_high (limit ∷ []) h.fields.elements early late (earlier_front (34 ∷ 36 ∷ 44 ∷ 46 ∷ []) i.can_be_prefix i.must_be_fresh h.hint i.nonce h.lifetime_value hop_apart) recognised in
    let s = at.0 in
    record {
      front = text_front h.name_value s.front s.back limit;
      after = flat_map element s.back;
      octets = octets_are text i limit h s.front s.back s.elements_are;
      place = place_there text i limit h s.front s.back s.elements_are there s.none;
      again = λ other small. with_other text i limit h s.front s.back s.elements_are at.1 other small
          (subst (Fields is_even_high interest_schema (elements_with h.name_value s.front s.back other)) (sym (fields_are i.can_be_prefix i.must_be_fresh h.hint i.nonce h.lifetime_value ((34, other ∷ []) ∷ late))) (s.again (other ∷ [])));
    }

-- ---- the octet of the HopLimit, and the effect of changing it

pub hop_only : (text : List ℕ) (limit : ℕ) → HasHopLimit text limit → hop_place text < length text
hop_only text limit has =
    let s = hop_stands text has.0 limit has.1 has.2 in
    omega (arith, s.place, ap length s.octets, length-append s.front (34 ∷ 1 ∷ limit ∷ s.after))

pub hop_still : (text : List ℕ) (i : PlainInterest) (old limit : ℕ) → limit < 256 → IsInterest text i → i.hop_limit ≡ Some old → IsInterest (with_octet text limit) (with_limit i limit)
hop_still text i old limit small h there =
    let s = hop_stands text i old h there in
    let set : with_octet text limit ≡ s.front ++ 34 ∷ 1 ∷ limit ∷ s.after = (λ k. slice_set (s.octets k) (s.place k) limit) ∙ octet_set s.front s.after old limit in
    subst (λ (t : List ℕ). IsInterest t (with_limit i limit)) (sym set) (s.again limit small)

-- a packet inside a link packet is shorter than the link packet
inside_shorter : (text whole : List ℕ) (token : Option (List ℕ)) → IsLinkPacket text token None (Some whole) → length whole < length text
inside_shorter text whole token link =
    let around = flat_map element link.headers in
    let inner : link.value ≡ around ++ (element (80, whole) ++ []) = link.inner.1 ∙ flat_map-append element link.headers ((80, whole) ∷ []) in
    omega (
      arith,
      ap length link.outer.1,
      ap length inner,
      length-append around (element (80, whole) ++ []),
      length-append (element (80, whole)) [],
      length-append (spelling 80) (spelling (length whole) ++ whole),
      length-append (spelling (length whole)) whole,
      length-append (spelling 100) (spelling (length link.value) ++ link.value),
      length-append (spelling (length link.value)) link.value,
      length-spelling_pos 100,
    )

is_whole : (text whole : List ℕ) (i : PlainInterest) → IsFrame text (AnInterest whole i) → length whole ≡ length text → IsInterest text i
is_whole text whole i (token, (h, inl same)) len = subst (λ (t : List ℕ). IsInterest t i) (sym same.0) h
is_whole text whole i (token, (h, inr link)) len = let shorter = inside_shorter text whole token link in absurd (omega arith)

limit_there : (limit : Option ℕ) → is_some limit ≡ true → (n : ℕ) × (limit ≡ Some n)
limit_there None e = absurd cc
limit_there (Some n) e = (n, refl)

both : (b c : Bool) → (b && c) ≡ true → (b ≡ true) × (c ≡ true)
both true c e = (refl, e)
both false c e = absurd cc

found_in : (text : List ℕ) (r : Result PlainFrame PacketFault) → IsBytes text → frame_at text ≡ r → place_in text r < length text → HasHopLimit text (slice_index text (hop_place text))
found_in text (Err f) fits is small = absurd (omega arith)
found_in text (Ok Idle) fits is small = absurd (omega arith)
found_in text (Ok (AData whole d)) fits is small = absurd (omega arith)
found_in text (Ok (ANack reason whole i)) fits is small = absurd (omega arith)
found_in text (Ok (AnInterest whole i)) fits is small =
    elim (eqb (length whole) (length text) && is_some i.hop_limit) as (λ b. (eqb (length whole) (length text) && is_some i.hop_limit) ≡ b
    → cond b (place_from text (on_result (λ outer. from_first 34 outer.0.1) (λ _. None) (element_at text))) (length text) < length text → HasHopLimit text (slice_index text (hop_place text))) [
      | true ↦ λ e _.
          let tests = both (eqb (length whole) (length text)) (is_some i.hop_limit) e in
          let h = is_whole text whole i (frame_found text (AnInterest whole i) fits is) (eqb-true (length whole) (length text) tests.0) in
          let n = limit_there i.hop_limit tests.1 in
          let s = hop_stands text i n.0 h n.1 in
          let octet : slice_index text (hop_place text) ≡ n.0 = (λ k. slice_index (s.octets k) (s.place k)) ∙ octet_is s.front s.after n.0 in
          (i, h, n.1 ∙ ap (λ k. Some k) (sym octet))
      | false ↦ λ _ small. absurd (omega arith)
    ] refl small

pub hop_found : (text : List ℕ) → IsBytes text → hop_place text < length text → HasHopLimit text (slice_index text (hop_place text))
hop_found text fits small = found_in text (frame_at text) fits refl small
