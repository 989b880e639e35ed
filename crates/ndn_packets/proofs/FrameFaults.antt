-- The reader of frames reports the first fault.
use Rattle.std.proofs.Common.{◌≡◌, ◌≢◌, ℕ, ◌<◌, ◌≤◌, Bool, true, false, cond, not, eqb, ltb, leb, ◌&&◌, List, [], ◌∷◌, ◌++◌, length, map, Option, Some, None, Result, Ok, Err, refl, sym, ap, subst, ◌∙◌, ◌⊎◌, inl, inr, eq-eqb, append_assoc, arith}
use Rattle.std.specs.Prelude.{◌↔◌, ◌||◌, is_some, IsErr, IsSome, IfErr}
use Rattle.std.specs.List.{AllByRecursion}
use Rattle.std.proofs.Math.Bool.{or-true}
use Rattle.std.proofs.lemmas.Bool.{cases_eq, cases_lt, ltb-true, ltb-false, lt-ltb, le-ltb, lt-leb, le-leb, eqb-true, eqb-false, ne_eqb}
use Rattle.std.proofs.lemmas.List.{append-nil}
use Rattle.ndn_tlv.specs.declared.fault.TlvFault.{TlvFault}
use Rattle.ndn_tlv.specs.Element.{Field, element, IsElement}
use Rattle.ndn_tlv.specs.Reading.{◌>>=◌, on_result, element_at, elements_of, nni_at}
use Rattle.ndn_tlv.specs.Writing.{optional}
use Rattle.ndn_tlv.proofs.Numbers.{IsBytes, IsBytes-back}
use Rattle.ndn_tlv.proofs.Fields.{element_found, elements_of-nil, elements_of-ok, elements_of-err}
use Rattle.ndn_packets.specs.declared.fault.PacketFault.{PacketFault}
use Rattle.ndn_packets.specs.declared.fault.PacketFault.TheVariants.{Tlv, BadField, Fragmented, LpField, TooLong}
use Rattle.ndn_packets.specs.Packet.{PlainInterest, PlainData, PlainFrame, PlainFramed, framed_with, AnInterest, AData, ANack, Idle}
use Rattle.ndn_packets.specs.Fields.{is_even_high}
use Rattle.ndn_packets.specs.Link.{is_ignored_header, nack_schema, IsHeader, headers_of}
use Rattle.ndn_packets.specs.Reading.{is_nil, nni_value_at, interest_at, data_at}
use Rattle.ndn_packets.specs.FirstFault.{FirstFault}
use Rattle.ndn_packets.specs.PacketFaults.{InterestFault, DataFault}
use Rattle.ndn_packets.specs.FrameReading.{only_element, interest_of, data_of, packet_of, nacked_of, take_nack_field, nack_at, LinkSoFar, no_headers_yet, is_token, is_refused_header, at_most, with_header, take_header, fragment_at, last_of, no_fragment, link_from, link_at, outer_of, framed_at, frame_at}
use Rattle.ndn_packets.specs.FrameFaults.{OuterFault, IsAlone, LongOr, NoInterest, NoData, NoPacket, NoneInside, FragmentFault, IsKnown, IsRefused, IsAbove, HeaderValueFault, HeaderFault, FollowerFault, AfterHeaders, LinkFault, FaultOf}
use Rattle.ndn_packets.proofs.Steps.{bind_ok, guard_ok, good, read, ok_is, both_tests, IsBytes-value, IsBytes-inside}
use Rattle.ndn_packets.proofs.FieldLists.{AreBytes}
use Rattle.ndn_packets.proofs.FirstFaults.{bad, err_is, ok_is_not_err, tells_first_fault}
use Rattle.ndn_packets.proofs.PacketFaults.{bind_err, told, interest_tells, data_tells}
use Rattle.ndn_packets.proofs.Links.{Room, no_more, nack_is, nack_of, one_token, nack_among, header_found, header_again}
use Rattle.ndn_packets.proofs.Packets.{only_found, one_element}

-- ---- octets that must be exactly one element

one_fault : (r : Result (Field × List ℕ) TlvFault) (text : List ℕ) (fault : PacketFault) → element_at text ≡ r → on_result (λ x. cond (is_nil x.1) (good x.0) (Err BadField)) (λ f. Err (Tlv f)) r ≡ Err fault → OuterFault text fault
one_fault (Err f) text fault is e = inl (f, is, err_is Field (Tlv f) fault e)
one_fault (Ok (f, [])) text fault is e = absurd (ok_is_not_err f fault e)
one_fault (Ok (f, o ∷ rest)) text fault is e = inr (f, o ∷ rest, is, (λ none. cc), err_is Field BadField fault e)

outer_fault : (text : List ℕ) (fault : PacketFault) → only_element text ≡ Err fault → OuterFault text fault
outer_fault text fault e = one_fault (element_at text) text fault refl e

not_alone : (f : Field) (rest : List ℕ) (fault : PacketFault) → rest ≢ [] → fault ≡ BadField → cond (is_nil rest) (good f) (Err BadField) ≡ Err fault
not_alone f [] fault some e = absurd (some refl)
not_alone f (o ∷ rest) fault some e = told Field BadField fault e

outer_fault_again : (text : List ℕ) (fault : PacketFault) → OuterFault text fault → only_element text ≡ Err fault
outer_fault_again text fault (inl h) = rw (h.1) (told Field (Tlv h.0) fault h.2)
outer_fault_again text fault (inr h) = rw (h.2) (not_alone h.0 h.1 fault h.3 h.4)

alone_again : (text : List ℕ) (e : Field) → IsAlone text e → only_element text ≡ good e
alone_again text e is = rw is refl

-- ---- the fault of reading one packet

-- if reading a packet returns a fault, then either the packet is too long, or the fault is in the
-- TLV-VALUE of the packet
long_found : {A : Type 0} (text : List ℕ) (r : Result A PacketFault) (fault : PacketFault) (P : Type 0) → (r ≡ Err fault → P) → cond (ltb 8800 (length text)) (bad A TooLong) r ≡ Err fault → LongOr text fault P
long_found {A} text r fault P found e =
    elim (ltb 8800 (length text)) as (λ b. ltb 8800 (length text) ≡ b → cond b (bad A TooLong) r ≡ Err fault → LongOr text fault P) [
      | true ↦ λ long e. inl (ltb-true 8800 (length text) long, err_is A TooLong fault e)
      | false ↦ λ short e. inr (ltb-false 8800 (length text) short, found e)
    ] refl e

long_again : {A : Type 0} (text : List ℕ) (r : Result A PacketFault) (fault : PacketFault) (P : Type 0) → (P → r ≡ Err fault) → LongOr text fault P → cond (ltb 8800 (length text)) (bad A TooLong) r ≡ Err fault
long_again {A} text r fault P again (inl h) = rw (lt-ltb 8800 (length text) h.0) (told A TooLong fault h.1)
long_again {A} text r fault P again (inr h) = rw (le-ltb 8800 (length text) h.0) (again h.1)

shown_fault : {A : Type 0} (r : Result A PacketFault) (show : A → PlainFrame) (fault : PacketFault) → (r >>= λ x. good (show x)) ≡ Err fault → r ≡ Err fault
shown_fault (Ok x) show fault e = absurd (ok_is_not_err (show x) fault e)
shown_fault {A} (Err f) show fault e = ap (bad A) (sym (err_is PlainFrame f fault e))

interest_fault : (text : List ℕ) (e : Field) (show : PlainInterest → PlainFrame) (fault : PacketFault) → (interest_of text e.1 >>= λ i. good (show i)) ≡ Err fault → NoInterest text e fault
interest_fault text e show fault is =
    long_found text (interest_at e.1) fault (InterestFault (elements_of e.1) fault) (interest_tells e.1 fault).0 (shown_fault (interest_of text e.1) show fault is)

interest_fault_again : (text : List ℕ) (e : Field) (show : PlainInterest → PlainFrame) (fault : PacketFault) → NoInterest text e fault → (interest_of text e.1 >>= λ i. good (show i)) ≡ Err fault
interest_fault_again text e show fault h =
    ap (λ (r : Result PlainInterest PacketFault). r >>= λ i. good (show i)) (long_again text (interest_at e.1) fault (InterestFault (elements_of e.1) fault) (interest_tells e.1 fault).1 h)

data_fault : (text : List ℕ) (e : Field) (fault : PacketFault) → (data_of text e.1 >>= λ d. good (AData text d)) ≡ Err fault → NoData text e fault
data_fault text e fault is =
    long_found text (data_at e.1) fault (DataFault (elements_of e.1) fault) (data_tells e.1 fault).0 (shown_fault (data_of text e.1) (AData text) fault is)

data_fault_again : (text : List ℕ) (e : Field) (fault : PacketFault) → NoData text e fault → (data_of text e.1 >>= λ d. good (AData text d)) ≡ Err fault
data_fault_again text e fault h =
    ap (λ (r : Result PlainData PacketFault). r >>= λ d. good (AData text d)) (long_again text (data_at e.1) fault (DataFault (elements_of e.1) fault) (data_tells e.1 fault).1 h)

packet_fault : (text : List ℕ) (e : Field) (fault : PacketFault) → packet_of text e ≡ Err fault → NoPacket text e fault
packet_fault text e fault is =
    elim (cases_eq e.0 5) [
      | inl interest ↦ inl (interest, interest_fault text e (AnInterest text) fault (rw (eq-eqb e.0 5 interest) at is))
      | inr no5 ↦ elim (cases_eq e.0 6) [
        | inl data_type ↦ inr (inl (data_type, data_fault text e fault (rw (ne_eqb e.0 5 no5, eq-eqb e.0 6 data_type) at is)))
        | inr no6 ↦ inr (inr (no5, no6, err_is PlainFrame BadField fault (rw (ne_eqb e.0 5 no5, ne_eqb e.0 6 no6) at is)))
      ]
    ]

apart : (k m n : ℕ) → k ≡ m → m ≢ n → k ≢ n
apart k m n is other e = other (sym is ∙ e)

packet_fault_again : (text : List ℕ) (e : Field) (fault : PacketFault) → NoPacket text e fault → packet_of text e ≡ Err fault
packet_fault_again text e fault (inl h) = rw (eq-eqb e.0 5 h.0) (interest_fault_again text e (AnInterest text) fault h.1)
packet_fault_again text e fault (inr (inl h)) = rw (ne_eqb e.0 5 (apart e.0 6 5 h.0 (λ no. omega arith)), eq-eqb e.0 6 h.0) (data_fault_again text e fault h.1)
packet_fault_again text e fault (inr (inr h)) = rw (ne_eqb e.0 5 h.0, ne_eqb e.0 6 h.1) (told PlainFrame BadField fault h.2)

-- ---- the fault of reading the packet in a Fragment

-- The result of reading a Fragment that is exactly one element. If there is a Nack reason, this
-- element must be an Interest.
abbrev inside : Option ℕ → List ℕ → Field → Result PlainFrame PacketFault
inside None text = packet_of text
inside (Some reason) text = nacked_of reason text

inside_fault : (nack : Option ℕ) (text : List ℕ) (e : Field) (fault : PacketFault) → inside nack text e ≡ Err fault → NoneInside nack text e fault
inside_fault None text e fault is = packet_fault text e fault is
inside_fault (Some reason) text e fault is =
    elim (cases_eq e.0 5) [
      | inl interest ↦ inl (interest, interest_fault text e (ANack reason text) fault (rw (eq-eqb e.0 5 interest) at is))
      | inr no5 ↦ inr (no5, err_is PlainFrame BadField fault (rw (ne_eqb e.0 5 no5) at is))
    ]

inside_fault_again : (nack : Option ℕ) (text : List ℕ) (e : Field) (fault : PacketFault) → NoneInside nack text e fault → inside nack text e ≡ Err fault
inside_fault_again None text e fault h = packet_fault_again text e fault h
inside_fault_again (Some reason) text e fault (inl h) = rw (eq-eqb e.0 5 h.0) (interest_fault_again text e (ANack reason text) fault h.1)
inside_fault_again (Some reason) text e fault (inr h) = rw (ne_eqb e.0 5 h.0) (told PlainFrame BadField fault h.1)

fragment_is : (nack : Option ℕ) (text : List ℕ) → fragment_at nack text ≡ (only_element text >>= inside nack text)
fragment_is None text = refl
fragment_is (Some reason) text = refl

fragment_fault : (nack : Option ℕ) (text : List ℕ) (fault : PacketFault) → fragment_at nack text ≡ Err fault → FragmentFault nack text fault
fragment_fault nack text fault is =
    elim (bind_err (only_element text) (inside nack text) fault (sym (fragment_is nack text) ∙ is)) [
      | inl e ↦ inl (outer_fault text fault e)
      | inr h ↦ inr (h.0, one_element (element_at text) h.0 h.1, inside_fault nack text h.0 fault h.2)
    ]

fragment_fault_again : (nack : Option ℕ) (text : List ℕ) (fault : PacketFault) → FragmentFault nack text fault → fragment_at nack text ≡ Err fault
fragment_fault_again nack text fault (inl h) = fragment_is nack text ∙ ap (λ (r : Result Field PacketFault). r >>= inside nack text) (outer_fault_again text fault h)
fragment_fault_again nack text fault (inr h) = fragment_is nack text ∙ ap (λ (r : Result Field PacketFault). r >>= inside nack text) (alone_again text h.0 h.1) ∙ inside_fault_again nack text h.0 fault h.2

-- ---- which header fields have been read

abbrev has : ℕ → List Field → Bool
has kind headers = not (is_nil (headers_of kind headers))

some_there : (kind : ℕ) (headers : List Field) → has kind headers ≡ true → headers_of kind headers ≢ []
some_there kind headers e = there (headers_of kind headers) e
  where
    there : (hs : List Field) → not (is_nil hs) ≡ true → hs ≢ []
    there [] e is = absurd cc
    there (h ∷ hs) e is = cc

there_again : (kind : ℕ) (headers : List Field) → headers_of kind headers ≢ [] → has kind headers ≡ true
there_again kind headers some = there (headers_of kind headers) some
  where
    there : (hs : List Field) → hs ≢ [] → not (is_nil hs) ≡ true
    there [] some = absurd (some refl)
    there (h ∷ hs) some = refl

has_one_more : (kind : ℕ) (headers : List Field) (e : Field) → has kind (headers ++ e ∷ []) ≡ (has kind headers || eqb e.0 kind)
has_one_more kind [] e =
    elim (eqb e.0 kind) as (λ b. not (is_nil (cond b (e ∷ []) [])) ≡ b) [
      | true ↦ refl
      | false ↦ refl
    ]
has_one_more kind (h ∷ headers) e =
    elim (eqb h.0 kind) as (λ b. not (is_nil (cond b (h ∷ headers_of kind (headers ++ e ∷ [])) (headers_of kind (headers ++ e ∷ []))))
    ≡ (not (is_nil (cond b (h ∷ headers_of kind headers) (headers_of kind headers))) || eqb e.0 kind)) [
      | true ↦ refl
      | false ↦ has_one_more kind headers e
    ]

-- in state `s`, the flag of each known header field is set exactly if `headers` has this field
record Met (s : LinkSoFar) (headers : List Field) : Type 0 where
  sequence : s.sequence ≡ has 81 headers
  frag_index : s.frag_index ≡ has 82 headers
  frag_count : s.frag_count ≡ has 83 headers
  token : is_some s.token ≡ has 98 headers
  nack : is_some s.nack ≡ has 800 headers

none_met : Met no_headers_yet []
none_met = record { sequence = refl; frag_index = refl; frag_count = refl; token = refl; nack = refl }

-- the state `t` of the reader has the flags of the state `s` and, if `kind` is the type of a known
-- header field, also the flag of this field
record Marks (s : LinkSoFar) (kind : ℕ) (t : LinkSoFar) : Type 0 where
  sequence : t.sequence ≡ (s.sequence || eqb kind 81)
  frag_index : t.frag_index ≡ (s.frag_index || eqb kind 82)
  frag_count : t.frag_count ≡ (s.frag_count || eqb kind 83)
  token : is_some t.token ≡ (is_some s.token || eqb kind 98)
  nack : is_some t.nack ≡ (is_some s.nack || eqb kind 800)

or_false : (b : Bool) → b ≡ (b || false)
or_false true = refl
or_false false = refl

or_true : (b : Bool) → true ≡ (b || true)
or_true b = sym (or-true b)

same_marks : (s : LinkSoFar) (kind : ℕ) → kind ≢ 81 → kind ≢ 82 → kind ≢ 83 → kind ≢ 98 → kind ≢ 800 → Marks s kind s
same_marks s kind no81 no82 no83 no98 no800 = record {
  sequence = rw (ne_eqb kind 81 no81) (or_false s.sequence);
  frag_index = rw (ne_eqb kind 82 no82) (or_false s.frag_index);
  frag_count = rw (ne_eqb kind 83 no83) (or_false s.frag_count);
  token = rw (ne_eqb kind 98 no98) (or_false (is_some s.token));
  nack = rw (ne_eqb kind 800 no800) (or_false (is_some s.nack));
}

pub at_most_made : (limit : ℕ) (v : List ℕ) (u t : LinkSoFar) → at_most limit v u ≡ Ok t → u ≡ t
at_most_made limit v u t e =
    let n = bind_ok (nni_value_at v) (λ n. cond (ltb limit n) (Err Fragmented) (good u)) t e in
    let g = guard_ok (ltb limit n.0) Fragmented (good u) t n.2 in
    ok_is u t g.1

abbrev MarksAt : LinkSoFar → LinkSoFar → List ℕ → ℕ → Type 0
MarksAt s t v kind = with_header s (kind, v) ≡ Ok t → Marks s kind t

marked : (s t : LinkSoFar) (e : Field) → MarksAt s t e.1 e.0
marked s t e =
    elim (cases_eq e.0 81) [
      | inl is ↦ subst (MarksAt s t e.1) (sym is) (λ made. subst (Marks s 81) (ok_is _ t made)
          (record { sequence = or_true s.sequence; frag_index = or_false s.frag_index; frag_count = or_false s.frag_count; token = or_false (is_some s.token); nack = or_false (is_some s.nack) }))
      | inr no81 ↦ elim (cases_eq e.0 82) [
        | inl is ↦ subst (MarksAt s t e.1) (sym is) (λ made. subst (Marks s 82) (at_most_made 0 e.1 _ t made)
            (record { sequence = or_false s.sequence; frag_index = or_true s.frag_index; frag_count = or_false s.frag_count; token = or_false (is_some s.token); nack = or_false (is_some s.nack) }))
        | inr no82 ↦ elim (cases_eq e.0 83) [
          | inl is ↦ subst (MarksAt s t e.1) (sym is) (λ made. subst (Marks s 83) (at_most_made 1 e.1 _ t made)
              (record { sequence = or_false s.sequence; frag_index = or_false s.frag_index; frag_count = or_true s.frag_count; token = or_false (is_some s.token); nack = or_false (is_some s.nack) }))
          | inr no83 ↦ elim (cases_eq e.0 98) [
            | inl is ↦ subst (MarksAt s t e.1) (sym is) (λ made. subst (Marks s 98) (ok_is _ t made)
                (record { sequence = or_false s.sequence; frag_index = or_false s.frag_index; frag_count = or_false s.frag_count; token = or_true (is_some s.token); nack = or_false (is_some s.nack) }))
            | inr no98 ↦ elim (cases_eq e.0 800) [
              | inl is ↦ subst (MarksAt s t e.1) (sym is) (λ made.
                  let n = bind_ok (nack_at e.1) (λ reason. good (record { sequence = s.sequence; frag_index = s.frag_index; frag_count = s.frag_count; token = s.token; nack = Some reason })) t made in
                  subst (Marks s 800) (ok_is _ t n.2)
                  (record { sequence = or_false s.sequence; frag_index = or_false s.frag_index; frag_count = or_false s.frag_count; token = or_false (is_some s.token); nack = or_true (is_some s.nack) }))
              | inr no800 ↦ rw (ne_eqb e.0 81 no81, ne_eqb e.0 82 no82, ne_eqb e.0 83 no83, ne_eqb e.0 98 no98, ne_eqb e.0 800 no800)
                  (λ made. subst (Marks s e.0) (ok_is s t made) (same_marks s e.0 no81 no82 no83 no98 no800))
            ]
          ]
        ]
      ]
    ]

flag_met : (flag now : Bool) (kind : ℕ) (headers : List Field) (e : Field) → now ≡ (flag || eqb e.0 kind) → flag ≡ has kind headers → now ≡ has kind (headers ++ e ∷ [])
flag_met flag now kind headers e is met = is ∙ ap (λ (b : Bool). b || eqb e.0 kind) met ∙ sym (has_one_more kind headers e)

one_more_met : (s t : LinkSoFar) (headers : List Field) (e : Field) → Met s headers → take_header s e ≡ Ok t → Met t (headers ++ e ∷ [])
one_more_met s t headers e met taken =
    let m = marked s t e (guard_ok (is_refused_header s e) LpField (with_header s e) t taken).1 in
    record {
      sequence = flag_met s.sequence t.sequence 81 headers e m.sequence met.sequence;
      frag_index = flag_met s.frag_index t.frag_index 82 headers e m.frag_index met.frag_index;
      frag_count = flag_met s.frag_count t.frag_count 83 headers e m.frag_count met.frag_count;
      token = flag_met (is_some s.token) (is_some t.token) 98 headers e m.token met.token;
      nack = flag_met (is_some s.nack) (is_some t.nack) 800 headers e m.nack met.nack;
    }

-- ---- a header field that is refused

token_sizes : (v : List ℕ) → not (is_token v) ≡ true → (length v < 1) ⊎ (32 < length v)
token_sizes v e =
    elim (cases_lt (length v) 1) [
      | inl none ↦ inl none
      | inr some ↦ elim (cases_lt 32 (length v)) [
        | inl many ↦ inr many
        | inr few ↦ absurd (both_tests (not (is_token v)) (rw (le-leb 1 (length v) some, le-leb (length v) 32 few) refl) e)
      ]
    ]

token_sizes_again : (v : List ℕ) → (length v < 1) ⊎ (32 < length v) → not (is_token v) ≡ true
token_sizes_again v (inl none) = rw (lt-leb 1 (length v) none) refl
token_sizes_again v (inr many) = rw (lt-leb (length v) 32 many) (both_not (leb 1 (length v)))
  where
    both_not : (b : Bool) → not (b && false) ≡ true
    both_not true = refl
    both_not false = refl

either : (a b : Bool) → (a || b) ≡ true → (a ≡ true) ⊎ (b ≡ true)
either true b e = inl refl
either false b e = inr e

refused_token : (s : LinkSoFar) (headers : List Field) (v : List ℕ) → Met s headers → (is_some s.token || not (is_token v)) ≡ true → IsRefused headers (98, v)
refused_token s headers v met e =
    elim (either (is_some s.token) (not (is_token v)) e) [
      | inl met_one ↦ inl (inr (inr (inr (inl refl))), some_there 98 headers (sym met.token ∙ met_one))
      | inr sizes ↦ inr (inl (refl, token_sizes v sizes))
    ]

abbrev RefusedAt : LinkSoFar → List Field → List ℕ → ℕ → Type 0
RefusedAt s headers v kind = is_refused_header s (kind, v) ≡ true → IsRefused headers (kind, v)

refused : (s : LinkSoFar) (headers : List Field) (e : Field) → Met s headers → RefusedAt s headers e.1 e.0
refused s headers e met =
    elim (cases_eq e.0 81) [
      | inl is ↦ subst (RefusedAt s headers e.1) (sym is) (λ r. inl (inl refl, some_there 81 headers (sym met.sequence ∙ r)))
      | inr no81 ↦ elim (cases_eq e.0 82) [
        | inl is ↦ subst (RefusedAt s headers e.1) (sym is) (λ r. inl (inr (inl refl), some_there 82 headers (sym met.frag_index ∙ r)))
        | inr no82 ↦ elim (cases_eq e.0 83) [
          | inl is ↦ subst (RefusedAt s headers e.1) (sym is) (λ r. inl (inr (inr (inl refl)), some_there 83 headers (sym met.frag_count ∙ r)))
          | inr no83 ↦ elim (cases_eq e.0 98) [
            | inl is ↦ subst (RefusedAt s headers e.1) (sym is) (refused_token s headers e.1 met)
            | inr no98 ↦ elim (cases_eq e.0 800) [
              | inl is ↦ subst (RefusedAt s headers e.1) (sym is) (λ r. inl (inr (inr (inr (inr refl))), some_there 800 headers (sym met.nack ∙ r)))
              | inr no800 ↦ rw (ne_eqb e.0 81 no81, ne_eqb e.0 82 no82, ne_eqb e.0 83 no83, ne_eqb e.0 98 no98, ne_eqb e.0 800 no800)
                  (λ r. inr (inr (
                    λ known. elim known [
                      | inl is ↦ no81 is
                      | inr (inl is) ↦ no82 is
                      | inr (inr (inl is)) ↦ no83 is
                      | inr (inr (inr (inl is))) ↦ no98 is
                      | inr (inr (inr (inr is))) ↦ no800 is
                    ],
                    not_true (is_ignored_header e.0) r,
                  )))
            ]
          ]
        ]
      ]
    ]
  where
    not_true : (b : Bool) → not b ≡ true → b ≡ false
    not_true true e = absurd cc
    not_true false e = refl

abbrev RefusedAgainAt : LinkSoFar → List Field → List ℕ → ℕ → Type 0
RefusedAgainAt s headers v kind = headers_of kind headers ≢ [] → is_refused_header s (kind, v) ≡ true

refused_again : (s : LinkSoFar) (headers : List Field) (e : Field) → Met s headers → IsRefused headers e → is_refused_header s e ≡ true
refused_again s headers e met (inl (known, some)) = twice known some
  where
    twice : IsKnown e.0 → RefusedAgainAt s headers e.1 e.0
    twice (inl is) = subst (RefusedAgainAt s headers e.1) (sym is) (λ some. met.sequence ∙ there_again 81 headers some)
    twice (inr (inl is)) = subst (RefusedAgainAt s headers e.1) (sym is) (λ some. met.frag_index ∙ there_again 82 headers some)
    twice (inr (inr (inl is))) = subst (RefusedAgainAt s headers e.1) (sym is) (λ some. met.frag_count ∙ there_again 83 headers some)
    twice (inr (inr (inr (inl is)))) = subst (RefusedAgainAt s headers e.1) (sym is) (λ some. rw (met.token ∙ there_again 98 headers some) refl)
    twice (inr (inr (inr (inr is)))) = subst (RefusedAgainAt s headers e.1) (sym is) (λ some. met.nack ∙ there_again 800 headers some)
refused_again s headers e met (inr (inl (is, sizes))) =
    subst (λ (kind : ℕ). is_refused_header s (kind, e.1) ≡ true) (sym is) (rw (token_sizes_again e.1 sizes) (or-true (is_some s.token)))
refused_again s headers e met (inr (inr (unknown, kept))) =
    rw (ne_eqb e.0 81 (λ is. unknown (inl is)), ne_eqb e.0 82 (λ is. unknown (inr (inl is))), ne_eqb e.0 83 (λ is. unknown (inr (inr (inl is)))), ne_eqb e.0 98 (λ is. unknown (inr (inr (inr (inl is))))), ne_eqb e.0 800 (λ is. unknown (inr (inr (inr (inr is))))), kept) refl

-- ---- a header field with a wrong value

number_fault : (r : Result ℕ TlvFault) (v : List ℕ) (limit : ℕ) (u : LinkSoFar) (fault : PacketFault) → nni_at v ≡ r
    → (on_result (λ n. good n) (λ _. Err BadField) r >>= λ n. cond (ltb limit n) (Err Fragmented) (good u)) ≡ Err fault → IsAbove limit v fault
number_fault (Err f) v limit u fault is e = inl (subst IsErr (sym is) refl, err_is LinkSoFar BadField fault e)
number_fault (Ok n) v limit u fault is e =
    elim (ltb limit n) as (λ b. ltb limit n ≡ b → cond b (bad LinkSoFar Fragmented) (good u) ≡ Err fault → IsAbove limit v fault) [
      | true ↦ λ above e. inr (n, is, ltb-true limit n above, err_is LinkSoFar Fragmented fault e)
      | false ↦ λ _ e. absurd (ok_is_not_err u fault e)
    ] refl e

number_fault_again : (v : List ℕ) (limit : ℕ) (u : LinkSoFar) (fault : PacketFault) → IsAbove limit v fault → at_most limit v u ≡ Err fault
number_fault_again v limit u fault (inl h) = not_number (nni_at v) h.0
  where
    not_number : (r : Result ℕ TlvFault) → IsErr r → (on_result (λ n. good n) (λ _. Err BadField) r >>= λ n. cond (ltb limit n) (Err Fragmented) (good u)) ≡ Err fault
    not_number (Ok n) is = absurd cc
    not_number (Err f) is = told LinkSoFar BadField fault h.1
number_fault_again v limit u fault (inr h) = rw (h.1, lt-ltb limit h.0 h.2) (told LinkSoFar Fragmented fault h.3)

nack_fault : (v : List ℕ) (fault : PacketFault) → (nack_at v ≡ Err fault) ↔ FirstFault take_nack_field is_even_high nack_schema 0 (elements_of v) fault
unfolding nack_at
nack_fault v fault = tells_first_fault take_nack_field is_even_high nack_schema 0 (elements_of v) fault

marked_fault : {A : Type 0} (r : Result A PacketFault) (made : A → LinkSoFar) (fault : PacketFault) → (r >>= λ x. good (made x)) ≡ Err fault → r ≡ Err fault
marked_fault (Ok x) made fault e = absurd (ok_is_not_err (made x) fault e)
marked_fault {A} (Err f) made fault e = ap (bad A) (sym (err_is LinkSoFar f fault e))

abbrev nack_made : LinkSoFar → ℕ → LinkSoFar
nack_made s reason = record { sequence = s.sequence; frag_index = s.frag_index; frag_count = s.frag_count; token = s.token; nack = Some reason }

abbrev ValueAt : LinkSoFar → PacketFault → List ℕ → ℕ → Type 0
ValueAt s fault v kind = with_header s (kind, v) ≡ Err fault → HeaderValueFault (kind, v) fault

value_fault : (s : LinkSoFar) (e : Field) (fault : PacketFault) → ValueAt s fault e.1 e.0
value_fault s e fault =
    elim (cases_eq e.0 81) [
      | inl is ↦ subst (ValueAt s fault e.1) (sym is) (λ made. absurd (ok_is_not_err _ fault made))
      | inr no81 ↦ elim (cases_eq e.0 82) [
        | inl is ↦ subst (ValueAt s fault e.1) (sym is) (λ made. inl (refl, number_fault (nni_at e.1) e.1 0 _ fault refl made))
        | inr no82 ↦ elim (cases_eq e.0 83) [
          | inl is ↦ subst (ValueAt s fault e.1) (sym is) (λ made. inr (inl (refl, number_fault (nni_at e.1) e.1 1 _ fault refl made)))
          | inr no83 ↦ elim (cases_eq e.0 98) [
            | inl is ↦ subst (ValueAt s fault e.1) (sym is) (λ made. absurd (ok_is_not_err _ fault made))
            | inr no98 ↦ elim (cases_eq e.0 800) [
              | inl is ↦ subst (ValueAt s fault e.1) (sym is) (λ made. inr (inr (refl, (nack_fault e.1 fault).0 (marked_fault (nack_at e.1) (nack_made s) fault made))))
              | inr no800 ↦ rw (ne_eqb e.0 81 no81, ne_eqb e.0 82 no82, ne_eqb e.0 83 no83, ne_eqb e.0 98 no98, ne_eqb e.0 800 no800)
                  (λ made. absurd (ok_is_not_err s fault made))
            ]
          ]
        ]
      ]
    ]

abbrev FaultyAt : LinkSoFar → PacketFault → List ℕ → ℕ → Type 0
FaultyAt s fault v kind = with_header s (kind, v) ≡ Err fault

value_fault_again : (s : LinkSoFar) (e : Field) (fault : PacketFault) → HeaderValueFault e fault → with_header s e ≡ Err fault
value_fault_again s e fault (inl h) = subst (FaultyAt s fault e.1) (sym h.0) (number_fault_again e.1 0 _ fault h.1)
value_fault_again s e fault (inr (inl h)) = subst (FaultyAt s fault e.1) (sym h.0) (number_fault_again e.1 1 _ fault h.1)
value_fault_again s e fault (inr (inr h)) =
    subst (FaultyAt s fault e.1) (sym h.0) (ap (λ (r : Result ℕ PacketFault). r >>= λ n. good (nack_made s n)) ((nack_fault e.1 fault).1 h.1))

header_fault : (s : LinkSoFar) (headers : List Field) (e : Field) (fault : PacketFault) → Met s headers → take_header s e ≡ Err fault → HeaderFault headers e fault
header_fault s headers e fault met is =
    elim (is_refused_header s e) as (λ b. is_refused_header s e ≡ b → cond b (bad LinkSoFar LpField) (with_header s e) ≡ Err fault → HeaderFault headers e fault) [
      | true ↦ λ r is. inl (refused s headers e met r, err_is LinkSoFar LpField fault is)
      | false ↦ λ r is. inr ((λ h. both_tests (is_refused_header s e) r (refused_again s headers e met h)), value_fault s e fault is)
    ] refl is

header_fault_again : (s : LinkSoFar) (headers : List Field) (e : Field) (fault : PacketFault) → Met s headers → HeaderFault headers e fault → take_header s e ≡ Err fault
header_fault_again s headers e fault met (inl h) = rw (refused_again s headers e met h.0) (told LinkSoFar LpField fault h.1)
header_fault_again s headers e fault met (inr h) =
    elim (is_refused_header s e) as (λ b. is_refused_header s e ≡ b → cond b (bad LinkSoFar LpField) (with_header s e) ≡ Err fault) [
      | true ↦ λ r. absurd (h.0 (refused s headers e met r))
      | false ↦ λ _. value_fault_again s e fault h.1
    ] refl

-- ---- where the reading of a link packet stops with a fault

-- The list `elements` consists of header fields that the reader accepts in state `s`, followed by
-- `rest`. The fault of `rest` after these header fields is `fault`.
record Stops (s : LinkSoFar) (elements : List (Result Field TlvFault)) (fault : PacketFault) : Type 0 where
  headers : List Field
  rest : List (Result Field TlvFault)
  last : LinkSoFar
  all : elements ≡ map read headers ++ rest
  allowed : AreBytes headers → AllByRecursion IsHeader headers × Room s headers last.token last.nack
  met : (before : List Field) → Met s before → Met last (before ++ headers)
  here : (before : List Field) → Met last before → AfterHeaders before last.nack rest fault

follower_fault : (framed : PlainFramed) (after : List (Result Field TlvFault)) (fault : PacketFault) → last_of framed after ≡ Err fault → FollowerFault after fault
follower_fault framed [] fault e = absurd (ok_is_not_err framed fault e)
follower_fault framed (Err f ∷ after) fault e = err_is PlainFramed (Tlv f) fault e
follower_fault framed (Ok x ∷ after) fault e = err_is PlainFramed LpField fault e

follower_fault_again : (framed : PlainFramed) (after : List (Result Field TlvFault)) (fault : PacketFault) → FollowerFault after fault → last_of framed after ≡ Err fault
follower_fault_again framed [] fault h = absurd h
follower_fault_again framed (Err f ∷ after) fault h = told PlainFramed (Tlv f) fault h
follower_fault_again framed (Ok x ∷ after) fault h = told PlainFramed LpField fault h

no_fragment_fault : (token : Option (List ℕ)) (nack : Option ℕ) (fault : PacketFault) → no_fragment token nack ≡ Err fault → IsSome nack × (fault ≡ BadField)
no_fragment_fault token None fault e = absurd (ok_is_not_err (framed_with token Idle) fault e)
no_fragment_fault token (Some reason) fault e = (refl, err_is PlainFramed BadField fault e)

no_fragment_again : (token : Option (List ℕ)) (nack : Option ℕ) (fault : PacketFault) → IsSome nack → fault ≡ BadField → no_fragment token nack ≡ Err fault
no_fragment_again token None fault some e = absurd cc
no_fragment_again token (Some reason) fault some e = told PlainFramed BadField fault e

-- if `headers` has at most one PitToken, the PitTokens of `headers` are `optional 98 token` for
-- some optional `token`
token_among : (headers : List Field) → length (headers_of 98 headers) ≤ 1 → (token : Option (List ℕ)) × (headers_of 98 headers ≡ optional 98 token)
token_among [] few = (None, refl)
token_among (h ∷ headers) few =
    elim (eqb h.0 98) as (λ b. eqb h.0 98 ≡ b → length (cond b (h ∷ headers_of 98 headers) (headers_of 98 headers)) ≤ 1
    → (token : Option (List ℕ)) × (cond b (h ∷ headers_of 98 headers) (headers_of 98 headers) ≡ optional 98 token)) [
      | true ↦ λ is few. (Some h.1, (λ k. (eqb-true h.0 98 is k, h.1) ∷ none_more (headers_of 98 headers) (omega arith) k))
      | false ↦ λ _ few. token_among headers few
    ] refl few
  where
    none_more : (hs : List Field) → length hs ≤ 0 → hs ≡ []
    none_more [] few = refl
    none_more (f ∷ hs) few = absurd (omega arith)

-- if `fault` is the fault of `elements` whenever the header fields before `elements` lead to state
-- `s`, then `Stops s elements fault` holds
stops_here : (s : LinkSoFar) (elements : List (Result Field TlvFault)) (fault : PacketFault) → ((before : List Field) → Met s before → AfterHeaders before s.nack elements fault) → Stops s elements fault
stops_here s elements fault h =
    record { headers = []; rest = elements; last = s; all = refl; allowed = λ fits. (tt, no_more s); met = λ before m. subst (Met s) (sym (append-nil before)) m; here = h }

stops : (s : LinkSoFar) (elements : List (Result Field TlvFault)) (fault : PacketFault) → link_from s elements ≡ Err fault → Stops s elements fault
stops s [] fault e = stops_here s [] fault (λ before m. no_fragment_fault s.token s.nack fault e)
stops s (Err f ∷ elements) fault e = stops_here s (Err f ∷ elements) fault (λ before m. err_is PlainFramed (Tlv f) fault e)
stops s (Ok x ∷ elements) fault e =
    elim (eqb x.0 80) as (λ b. eqb x.0 80 ≡ b → cond b (fragment_at s.nack x.1 >>= λ f. last_of (framed_with s.token f) elements) (take_header s x >>= λ t. link_from t elements) ≡ Err fault → Stops s (Ok x ∷ elements) fault) [
      | true ↦ λ is e. elim (bind_err (fragment_at s.nack x.1) (λ f. last_of (framed_with s.token f) elements) fault e) [
        | inl f ↦ stops_here s (Ok x ∷ elements) fault (λ before m. inr (eqb-true x.0 80 is, inl (fragment_fault s.nack x.1 fault f)))
        | inr f ↦ stops_here s (Ok x ∷ elements) fault (λ before m. inr (
          eqb-true x.0 80 is,
          inr (
            (λ other h. ok_is_not_err f.0 other (sym f.1 ∙ fragment_fault_again s.nack x.1 other h)),
            follower_fault (framed_with s.token f.0) elements fault f.2,
          ),
        ))
      ]
      | false ↦ λ is e. elim (bind_err (take_header s x) (λ t. link_from t elements) fault e) [
        | inl h ↦ stops_here s (Ok x ∷ elements) fault (λ before m. inl (eqb-false x.0 80 is, header_fault s before x fault m h))
        | inr t ↦
            let p = stops t.0 elements fault t.2 in
            let g = guard_ok (is_refused_header s x) LpField (with_header s x) t.0 t.1 in
            record {
              headers = x ∷ p.headers;
              rest = p.rest;
              last = p.last;
              all = ap (λ (es : List (Result Field TlvFault)). read x ∷ es) p.all;
              allowed = λ fits.
                  let first = header_found s t.0 x fits.0 g.0 g.1 in
                  let others = p.allowed fits.1 in
                  ((first.is_header, others.0), first.leaves p.headers p.last.token p.last.nack others.1);
              met = λ before m. subst (Met p.last) (append_assoc before (x ∷ []) p.headers) (p.met (before ++ x ∷ []) (one_more_met s t.0 before x m t.1));
              here = p.here;
            }
      ]
    ] refl e

-- after valid header fields, `link_from` returns the fault of the remaining elements
after_again : (s : LinkSoFar) (headers : List Field) (rest : List (Result Field TlvFault)) (fault : PacketFault) → Met s headers → AfterHeaders headers s.nack rest fault → link_from s rest ≡ Err fault
after_again s headers [] fault met h = no_fragment_again s.token s.nack fault h.0 h.1
after_again s headers (Err f ∷ after) fault met h = told PlainFramed (Tlv f) fault h
after_again s headers (Ok x ∷ after) fault met (inl h) =
    rw (ne_eqb x.0 80 h.0) (ap (λ (r : Result LinkSoFar PacketFault). r >>= λ t. link_from t after) (header_fault_again s headers x fault met h.1))
after_again s headers (Ok x ∷ after) fault met (inr (is, inl f)) =
    rw (eq-eqb x.0 80 is) (ap (λ (r : Result PlainFrame PacketFault). r >>= λ frame. last_of (framed_with s.token frame) after) (fragment_fault_again s.nack x.1 fault f))
after_again s headers (Ok x ∷ after) fault met (inr (is, inr f)) =
    rw (eq-eqb x.0 80 is) (held_first (fragment_at s.nack x.1) refl)
  where
    held_first : (r : Result PlainFrame PacketFault) → fragment_at s.nack x.1 ≡ r → (r >>= λ frame. last_of (framed_with s.token frame) after) ≡ Err fault
    held_first (Ok frame) e = follower_fault_again (framed_with s.token frame) after fault f.1
    held_first (Err other) e = absurd (f.0 other (fragment_fault s.nack x.1 other e))

link_again_to : (s : LinkSoFar) (before headers : List Field) (rest : List (Result Field TlvFault)) (token : Option (List ℕ)) (nack : Option ℕ) (fault : PacketFault) → Met s before → AllByRecursion IsHeader headers → Room s headers token nack
    → AfterHeaders (before ++ headers) nack rest fault → link_from s (map read headers ++ rest) ≡ Err fault
link_again_to s before [] rest token nack fault met allowed r h =
    after_again s before rest fault met (subst (λ (n : Option ℕ). AfterHeaders before n rest fault) (sym (nack_is s.nack nack r.nacks)) (subst (λ (hs : List Field). AfterHeaders hs nack rest fault) (append-nil before) h))
link_again_to s before (e ∷ headers) rest token nack fault met allowed r h =
    let a = header_again s e headers token nack allowed.0 r in
    rw (a.no_fragment, a.taken) (link_again_to a.after (before ++ e ∷ []) headers rest token nack fault (one_more_met s a.after before e met a.taken) allowed.1 a.left
    (subst (λ (hs : List Field). AfterHeaders hs nack rest fault) (sym (append_assoc before (e ∷ []) headers)) h))

-- if `value` consists of octets, the TLV-VALUE of the first element in `value` and the input after
-- this element consist of octets too
first_bytes : (value : List ℕ) (h : Field) (items : List (Result Field TlvFault)) (r : Result (Field × List ℕ) TlvFault) → element_at value ≡ r → IsBytes value → elements_of value ≡ read h ∷ items
    → (after : List ℕ) × IsBytes h.1 × IsBytes after × (elements_of after ≡ items)
first_bytes value h items (Ok (f, after)) is fits e =
    let found = element_found value f after fits is in
    let bytes = subst IsBytes found.1 fits in
    let next = same_next f h (elements_of after) items (sym (elements_of-ok value f after is) ∙ e) in
    (after, subst (λ (g : Field). IsBytes g.1) next.0 (IsBytes-value f after bytes), IsBytes-back (element f) after bytes, next.1)
  where
    same_next : (f h : Field) (xs ys : List (Result Field TlvFault)) → read f ∷ xs ≡ read h ∷ ys → (f ≡ h) × (xs ≡ ys)
    same_next f h xs ys e = (cc, cc)
first_bytes value h items (Err d) is fits e = absurd (refused (elements_of-err value d some is))
  where
    nothing : [] ≡ read h ∷ items → ⊥
    nothing e = cc

    some : value ≢ []
    some none = nothing (sym elements_of-nil ∙ ap elements_of (sym none) ∙ e)

    refused : elements_of value ≡ Err d ∷ [] → ⊥
    refused is = (let both = sym is ∙ e in cc)

front_bytes : (value : List ℕ) (headers : List Field) (rest : List (Result Field TlvFault)) → IsBytes value → elements_of value ≡ map read headers ++ rest → AreBytes headers
front_bytes value [] rest fits e = tt
front_bytes value (h ∷ headers) rest fits e =
    let n = first_bytes value h (map read headers ++ rest) (element_at value) refl fits e in
    (n.1, front_bytes n.0 headers rest n.2 n.3)

link_tells : (value : List ℕ) (fault : PacketFault) → IsBytes value → (link_at value ≡ Err fault) ↔ LinkFault (elements_of value) fault
unfolding link_at
link_tells value fault fits = (
  λ e.
      let p = stops no_headers_yet (elements_of value) fault e in
      let allowed = p.allowed (front_bytes value p.headers p.rest fits p.all) in
      let r = allowed.1 in
      let n = nack_of p.headers p.last.nack r.nacks in
      record {
        headers = p.headers;
        nack = p.last.nack;
        rest = p.rest;
        elements_are = p.all;
        allowed = allowed.0;
        once = (r.sequence, (r.frag_index, (r.frag_count, (one_token p.headers p.last.token r.tokens, (n.1, tt)))));
        nacked = n.0;
        faulty = p.here p.headers (p.met [] none_met);
      },
  λ h.
      let o = h.once in
      let t = token_among h.headers o.1.1.1.0 in
      ap (link_from no_headers_yet) h.elements_are
      ∙ link_again_to no_headers_yet [] h.headers h.rest t.0 h.nack fault none_met h.allowed
      (record { sequence = o.0; frag_index = o.1.0; frag_count = o.1.1.0; tokens = t.1; nacks = nack_among h.headers h.nack h.nacked }) h.faulty,
)

-- ---- the fault that a reader of frames returns

pub framed_tells : (text : List ℕ) (fault : PacketFault) → IsBytes text → (framed_at text ≡ Err fault) ↔ FaultOf text fault
unfolding framed_at
framed_tells text fault fits = (
  λ e. elim (cases_lt 9000 (length text)) [
    | inl long ↦ inl (long, err_is PlainFramed TooLong fault (rw (lt-ltb 9000 (length text) long) at e))
    | inr short ↦ inr (
      short,
      elim (bind_err (only_element text) (outer_of text) fault (rw (le-ltb 9000 (length text) short) at e)) [
        | inl o ↦ inl (outer_fault text fault o)
        | inr o ↦ inr (o.0, one_element (element_at text) o.0 o.1, held_fault o.0 (only_found text o.0 fits o.1) o.2)
      ],
    )
  ],
  λ h. elim h [
    | inl long ↦ rw (lt-ltb 9000 (length text) long.0) (told PlainFramed TooLong fault long.1)
    | inr short ↦ rw (le-ltb 9000 (length text) short.0) (elim short.1 [
      | inl o ↦ ap (λ (r : Result Field PacketFault). r >>= outer_of text) (outer_fault_again text fault o)
      | inr o ↦ ap (λ (r : Result Field PacketFault). r >>= outer_of text) (alone_again text o.0 o.1) ∙ held_fault_again o.0 (only_found text o.0 fits (alone_again text o.0 o.1)) o.2
    ])
  ],
)
  where
    shown : (r : Result PlainFrame PacketFault) (fault : PacketFault) → (r >>= λ frame. good (framed_with None frame)) ≡ Err fault → r ≡ Err fault
    shown (Ok f) fault e = absurd (ok_is_not_err (framed_with None f) fault e)
    shown (Err f) fault e = ap (bad PlainFrame) (sym (err_is PlainFramed f fault e))

    held_fault : (e : Field) → IsElement text e.0 e.1 → outer_of text e ≡ Err fault → ((e.0 ≡ 100) × LinkFault (elements_of e.1) fault) ⊎ ((e.0 ≢ 100) × NoPacket text e fault)
    held_fault e own is =
        elim (cases_eq e.0 100) [
          | inl link ↦ inl (link, (link_tells e.1 fault (IsBytes-inside text e.1 e.0 fits own)).0 (rw (eq-eqb e.0 100 link) at is))
          | inr other ↦ inr (other, packet_fault text e fault (shown (packet_of text e) fault (rw (ne_eqb e.0 100 other) at is)))
        ]

    held_fault_again : (e : Field) → IsElement text e.0 e.1 → ((e.0 ≡ 100) × LinkFault (elements_of e.1) fault) ⊎ ((e.0 ≢ 100) × NoPacket text e fault) → outer_of text e ≡ Err fault
    held_fault_again e own (inl h) = rw (eq-eqb e.0 100 h.0) ((link_tells e.1 fault (IsBytes-inside text e.1 e.0 fits own)).1 h.1)
    held_fault_again e own (inr h) = rw (ne_eqb e.0 100 h.0) (ap (λ (r : Result PlainFrame PacketFault). r >>= λ frame. good (framed_with None frame)) (packet_fault_again text e fault h.1))

pub frame_tells : (text : List ℕ) (fault : PacketFault) → IsBytes text → (frame_at text ≡ Err fault) ↔ FaultOf text fault
unfolding frame_at
frame_tells text fault fits = (
  λ e. (framed_tells text fault fits).0 (of_framed (framed_at text) e),
  λ h. ap (λ (r : Result PlainFramed PacketFault). r >>= λ framed. good framed.frame) ((framed_tells text fault fits).1 h),
)
  where
    of_framed : (r : Result PlainFramed PacketFault) → (r >>= λ framed. good framed.frame) ≡ Err fault → r ≡ Err fault
    of_framed (Ok f) e = absurd (ok_is_not_err f.frame fault e)
    of_framed (Err f) e = ap (bad PlainFramed) (sym (err_is PlainFrame f fault e))

pub fault_from : {X : Type 0} (view : X → PlainFrame) (text : List ℕ) (r : Result X PacketFault) → IsBytes text → on_result (λ x. good (view x)) (λ f. Err f) r ≡ frame_at text → IfErr r (FaultOf text)
fault_from view text (Ok x) fits e = tt
fault_from view text (Err fault) fits e = (frame_tells text fault fits).0 (sym e)

pub framed_fault_from : {X : Type 0} (view : X → PlainFramed) (text : List ℕ) (r : Result X PacketFault) → IsBytes text → on_result (λ x. good (view x)) (λ f. Err f) r ≡ framed_at text → IfErr r (FaultOf text)
framed_fault_from view text (Ok x) fits e = tt
framed_fault_from view text (Err fault) fits e = (framed_tells text fault fits).0 (sym e)
