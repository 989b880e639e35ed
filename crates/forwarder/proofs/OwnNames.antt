-- The node's own answer to an Interest is a Data whose name answers the Interest.
use Rattle.std.proofs.Common.{◌≡◌, ℕ, ◌<◌, ◌≤◌, Bool, true, false, cond, List, [], ◌∷◌, ◌++◌, length, drop, refl, sym, ap, subst, ◌∙◌, arith, append_assoc, append-nil, Result, Ok, Err, inl, inr}
use Rattle.std.specs.Prelude.{nat_lt, ◌⊎◌, ◌==◌, Option, Some, None, IsTrue, bytes_eq}
use Rattle.std.specs.Option.{option_or}
use Rattle.std.proofs.lemmas.Bool.{eqb-true}
use Rattle.std.proofs.lemmas.List.{drop_at, length-append}
use Rattle.std.proofs.lemmas.Slice.Eq.{bytes_eq-Decides}
use Rattle.ndn_tlv.specs.declared.fault.TlvFault.{TlvFault}
use Rattle.ndn_tlv.specs.Element.{Field, IsField, element}
use Rattle.ndn_tlv.specs.Number.{shortest_nni}
use Rattle.ndn_tlv.specs.Reading.{◌>>=◌, elements_of, nni_at, on_result}
use Rattle.ndn_tlv.specs.Writing.{octets, optional}
use Rattle.ndn_tlv.proofs.Integers.{length-shortest_eight}
use Rattle.ndn_tlv.proofs.Lengths.{length-element}
use Rattle.ndn_names.specs.Name.{IsComponent, IsNameValue, octets_of}
use Rattle.ndn_names.specs.Reading.{name_at}
use Rattle.ndn_names.specs.declared.fault.NameFault.{NameFault}
use Rattle.ndn_names.proofs.Names.{name_again}
use Rattle.ndn_names.specs.declared.component_type.TheConstants.{SEGMENT, VERSION}
use Rattle.ndn_packets.specs.declared.fault.PacketFault.{PacketFault}
use Rattle.ndn_packets.specs.declared.fault.PacketFault.TheVariants.{BadField, TooLong}
use Rattle.ndn_packets.specs.declared.signature.Sign.TheVariants.{Digest}
use Rattle.ndn_packets.specs.Answers.{AnswersByName, Answers, answers, begins_with}
use Rattle.ndn_packets.specs.Fields.{data_schema, is_even_high}
use Rattle.ndn_packets.specs.FrameReading.{data_of, frame_at, packet_of}
use Rattle.ndn_packets.specs.Packet.{PlainInterest, PlainData, PlainSignatureInfo, AnInterest, AData}
use Rattle.ndn_packets.specs.PacketFaults.{Leads}
use Rattle.ndn_packets.specs.Reading.{DataSoFar, data_at, fields_from, found_or, leading_name_at, nothing_yet, read_fields, take_data_field}
use Rattle.ndn_packets.specs.Writing.{AreOctets, data_value, info_fields, meta_fields, meta_of, signed_data, signed_fields}
use Rattle.ndn_packets.proofs.Answering.{answers_is, prefix_is}
use Rattle.ndn_packets.proofs.Packets.{frame_found}
use Rattle.ndn_packets.proofs.Steps.{bind_ok, good, guard_ok, lead, ok_is, read}
use Rattle.ndn_packets.proofs.Wholes.{data_packet, data_short}
use Rattle.ndn_packets.proofs.Written.{all_append}
use Rattle.mgmt_core.specs.Writing.{segment_at}
use Rattle.forwarder.specs.Event.{Send}
use Rattle.forwarder.specs.Verdict.{Answer, Dropped, NoSegment, Passed, dropped, passed}
use Rattle.forwarder.specs.Policy.{Policy}
use Rattle.forwarder.specs.Commands.{reply_content}
use Rattle.forwarder.specs.Request.{ListAsked, ListKind, RouteList, StrategyList, list_after, list_asked, list_name, list_of_kind, numbered, segmented, shortest_number, versioned}
use Rattle.forwarder.specs.Datasets.{LIST_FRESHNESS, dataset_text, is_present, segment_answer, segment_data, segment_name}
use Rattle.forwarder.specs.AskedFor.{AnswersByItsName}
use Rattle.forwarder.specs.DataSends.{IsReplyToCommand, IsSegmentAskedFor}
use Rattle.forwarder.proofs.Asking.{list_is_name}
use Rattle.forwarder.proofs.Contents.{next_element, only_one}
use Rattle.forwarder.proofs.Requests.{for_list}

-- ---- a Data is read with the name that was written

-- the name is valid, and each of its components fits in an element
abbrev IsGood : List Field → Type 0
IsGood name = IsNameValue (octets_of name) name

-- the fields of a Data of the node's own after the Name
abbrev later_fields : List Field → Option (List ℕ) → List ℕ → List Field
later_fields name meta content =
    (optional 20 meta ++ ((21, content) ∷ (22, octets (info_fields Digest None None)) ∷ [])) ++ (23, data_value Digest name meta (Some content)) ∷ []

abbrev named : List Field → Result (List Field) NameFault
named name = Ok name

abbrev data_with : List Field → DataSoFar → PlainSignatureInfo → List ℕ → PlainData
data_with name s info signature = record { name = name; freshness = s.freshness; content = s.content; signature = record { info = info; value = signature } }

abbrev made : List Field → DataSoFar → Result PlainData PacketFault
made name s = found_or BadField s.info >>= λ info. found_or BadField s.value >>= λ signature. good (data_with name s info signature)

-- a value that is read as a Data begins with the name of the Data
name_read : (value : List ℕ) (d : PlainData) → data_at value ≡ Ok d → (later : List (Result Field TlvFault)) × Leads (elements_of value) d.name later
unfolding data_at
name_read value d e =
    let a = bind_ok (leading_name_at (elements_of value)) (λ first. read_fields take_data_field nothing_yet (fields_from is_even_high data_schema first.1) >>= λ s. made first.0 s) d e in
    let b = bind_ok (read_fields take_data_field nothing_yet (fields_from is_even_high data_schema a.0.1)) (λ s. made a.0.0 s) d a.2 in
    let i = bind_ok (found_or BadField b.0.info) (λ info. found_or BadField b.0.value >>= λ signature. good (data_with a.0.0 b.0 info signature)) d b.2 in
    let v = bind_ok (found_or BadField b.0.value) (λ signature. good (data_with a.0.0 b.0 i.0 signature)) d i.2 in
    let same : a.0.0 ≡ d.name = ap (λ (x : PlainData). x.name) (ok_is (data_with a.0.0 b.0 i.0 v.0) d v.2) in
    (a.0.1, subst (λ (n : List Field). Leads (elements_of value) n a.0.1) same (lead (elements_of value) a.0 a.1))

-- octets that are one element of the type of a Data, and are read as the Data `d`, have a value
-- that is read as `d`
value_read : (value : List ℕ) (d : PlainData) → length (element (6, value)) ≤ 8800 → frame_at (element (6, value)) ≡ Ok (AData (element (6, value)) d) → data_at value ≡ Ok d
value_read value d short e =
    let whole = element (6, value) in
    let few : length value ≤ 8800 = omega (arith, short, length-element 6 value) in
    let field : IsField (6, value) = (omega arith, omega arith, omega (arith, few)) in
    let packet : packet_of whole (6, value) ≡ Ok (AData whole d) = ap (λ (r : Result Field PacketFault). r >>= packet_of whole) (sym (only_one (6, value) field)) ∙ data_packet whole whole d e in
    let one = bind_ok (data_of whole value) (λ x. good (AData whole x)) (AData whole d) packet in
    let same : one.0 ≡ d = (let f : AData whole one.0 ≡ AData whole d = ok_is (AData whole one.0) (AData whole d) one.2 in cc f) in
    (guard_ok (nat_lt 8800 (length whole)) TooLong (data_at value) one.0 one.1).1 ∙ ap good same

same_value : (a b : List ℕ) (rest later : List (Result Field TlvFault)) → read (7, a) ∷ rest ≡ read (7, b) ∷ later → a ≡ b
same_value a b rest later e = (let pair : ◌≡◌ {A = Field} (7, a) (7, b) = cc e in ap (λ (f : Field). f.1) pair)

same_named : (a b : List Field) → named a ≡ named b → b ≡ a
same_named a b e = cc e

-- a value that begins with the element of a valid name is read with this name
name_at_front : (name found : List Field) (rest : List ℕ) (later : List (Result Field TlvFault)) → IsGood name → length (octets_of name) ≤ 8800
    → Leads (elements_of (element (7, octets_of name) ++ rest)) found later → found ≡ name
name_at_front name found rest later is few begins =
    let field : IsField (7, octets_of name) = (omega arith, omega arith, omega (arith, few)) in
    let front : read (7, octets_of name) ∷ elements_of rest ≡ read (7, begins.value) ∷ later = sym (next_element (7, octets_of name) rest field) ∙ begins.front in
    let same : octets_of name ≡ begins.value = same_value (octets_of name) begins.value (elements_of rest) later front in
    same_named name found (sym (name_again (octets_of name) name is) ∙ ap name_at same ∙ begins.name_is)

-- a Data that was written with a valid name is read with this name
pub written_read : (name : List Field) (meta : Option (List ℕ)) (content whole : List ℕ) (d : PlainData) → IsGood name → whole ≡ signed_data Digest name meta (Some content)
    → frame_at whole ≡ Ok (AData whole d) → d.name ≡ name
written_read name meta content whole d is written e =
    let value = octets (signed_fields Digest name meta (Some content)) in
    let rest = octets (later_fields name meta content) in
    let short : length (element (6, value)) ≤ 8800 = subst (λ (text : List ℕ). length text ≤ 8800) written (data_short whole whole d e) in
    let came : data_at value ≡ Ok d = value_read value d short (subst (λ (text : List ℕ). frame_at text ≡ Ok (AData text d)) written e) in
    let begins = name_read value d came in
    let few : length (octets_of name) ≤ 8800 =
    omega (arith, short, length-element 6 value, length-append (element (7, octets_of name)) rest, length-element 7 (octets_of name)) in
    name_at_front name d.name rest begins.0 is few begins.1

-- ---- the name of a segment answers the Interest that asks for the segment

number_is : (value : List ℕ) (n : ℕ) → shortest_number value ≡ Some n → value ≡ shortest_nni n
number_is value n e = by_nni (nni_at value) e
  where
    by_same : (m : ℕ) (b : Bool) → bytes_eq value (shortest_nni m) ≡ b → cond b (Some m) None ≡ Some n → value ≡ shortest_nni n
    by_same m true is e =
        let same : m ≡ n = cc e in
        (bytes_eq-Decides value (shortest_nni m)).0 is ∙ ap shortest_nni same
    by_same m false is e = cc e

    by_nni : (r : Result ℕ TlvFault) → on_result (λ m. cond (bytes_eq value (shortest_nni m)) (Some m) None) (λ _. None) r ≡ Some n → value ≡ shortest_nni n
    by_nni (Ok m) e = by_same m (bytes_eq value (shortest_nni m)) refl e
    by_nni (Err fault) e = cc e

component_is : (kind : ℕ) (c : Field) (n : ℕ) → numbered kind c ≡ Some n → c ≡ (kind, shortest_nni n)
component_is kind c n e = by_kind (c.0 == kind) refl e
  where
    by_kind : (b : Bool) → c.0 == kind ≡ b → cond b (shortest_number c.1) None ≡ Some n → c ≡ (kind, shortest_nni n)
    by_kind true is e =
        let same = eqb-true c.0 kind is in
        let value = number_is c.1 n e in λ k. (same k, value k)
    by_kind false is e = cc e

module _ (kind : ListKind) (flag : Bool) (p : Policy) (asked : ListAsked) (present : is_present p asked.version ≡ true) where
  abbrev Fits : List Field → Type 0
  Fits later = AnswersByName (segment_name asked.kind p.table_number asked.segment) (list_name kind ++ later) flag

  -- the list and the segment are those that were asked for; `version` is the version that was asked
  -- for, if any
  same_asked : (version : Option ℕ) (segment : ℕ) → record { kind = kind; version = version; segment = segment } ≡ asked → (asked.kind ≡ kind) × (asked.version ≡ version) × (asked.segment ≡ segment)
  same_asked version segment e = (sym (ap (λ (a : ListAsked). a.kind) e), sym (ap (λ (a : ListAsked). a.version) e), sym (ap (λ (a : ListAsked). a.segment) e))

  -- a version that is asked for is the present version
  present_is : (n : ℕ) → asked.version ≡ Some n → n ≡ p.table_number
  present_is n e = eqb-true n p.table_number (sym (ap (λ (v : Option ℕ). is_present p v) e) ∙ present)

  whole_list : (b : Bool) → flag ≡ b → cond b (Some (record { kind = kind; version = None; segment = 0 })) None ≡ Some asked → Fits []
  whole_list true is e =
      let same : record { kind = kind; version = None; segment = 0 } ≡ asked = cc e in
      let parts = same_asked None 0 same in
      inr (
        is,
        (
          (VERSION, shortest_nni p.table_number) ∷ (SEGMENT, shortest_nni asked.segment) ∷ [],
          ap (λ (k : ListKind). segment_name k p.table_number asked.segment) parts.0
              ∙ ap (λ (l : List Field). l ++ (VERSION, shortest_nni p.table_number) ∷ (SEGMENT, shortest_nni asked.segment) ∷ []) (sym (append-nil (list_name kind))),
        ),
      )
  whole_list false is e = cc e

  one_version : (v : Field) (b : Bool) → flag ≡ b → cond b (versioned kind 0 (numbered VERSION v)) None ≡ Some asked → Fits (v ∷ [])
  one_version v true is e = by_number (numbered VERSION v) refl e
    where
      by_number : (o : Option ℕ) → numbered VERSION v ≡ o → versioned kind 0 o ≡ Some asked → Fits (v ∷ [])
      by_number None n e = cc e
      by_number (Some m) n e =
          let same : record { kind = kind; version = Some m; segment = 0 } ≡ asked = cc e in
          let parts = same_asked (Some m) 0 same in
          let v_is : v ≡ (VERSION, shortest_nni p.table_number) = component_is VERSION v m n ∙ ap (λ (x : ℕ). (VERSION, shortest_nni x)) (present_is m parts.1) in
          inr (
            is,
            (
              (SEGMENT, shortest_nni asked.segment) ∷ [],
              ap (λ (k : ListKind). segment_name k p.table_number asked.segment) parts.0
                  ∙ ap (λ (c : Field). list_name kind ++ c ∷ (SEGMENT, shortest_nni asked.segment) ∷ []) (sym v_is)
                  ∙ sym (append_assoc (list_name kind) (v ∷ []) ((SEGMENT, shortest_nni asked.segment) ∷ [])),
            ),
          )
  one_version v false is e = cc e

  one_segment : (v s : Field) → segmented kind (numbered VERSION v) (numbered SEGMENT s) ≡ Some asked → Fits (v ∷ s ∷ [])
  one_segment v s e = by_numbers (numbered VERSION v) refl (numbered SEGMENT s) refl e
    where
      by_numbers : (o : Option ℕ) → numbered VERSION v ≡ o → (q : Option ℕ) → numbered SEGMENT s ≡ q → segmented kind o q ≡ Some asked → Fits (v ∷ s ∷ [])
      by_numbers o n None m e = cc e
      by_numbers None n (Some k) m e = cc e
      by_numbers (Some j) n (Some k) m e =
          let same : record { kind = kind; version = Some j; segment = k } ≡ asked = cc e in
          let parts = same_asked (Some j) k same in
          let v_is : v ≡ (VERSION, shortest_nni p.table_number) = component_is VERSION v j n ∙ ap (λ (x : ℕ). (VERSION, shortest_nni x)) (present_is j parts.1) in
          let s_is : s ≡ (SEGMENT, shortest_nni asked.segment) = component_is SEGMENT s k m ∙ ap (λ (x : ℕ). (SEGMENT, shortest_nni x)) (sym parts.2) in
          inl (ap (λ (c : Field). list_name kind ++ c ∷ s ∷ []) v_is
          ∙ ap (λ (c : Field). list_name kind ++ (VERSION, shortest_nni p.table_number) ∷ c ∷ []) s_is
          ∙ ap (λ (k : ListKind). segment_name k p.table_number asked.segment) (sym parts.0))

  after_fits : (later : List Field) → list_after kind flag later ≡ Some asked → Fits later
  after_fits [] e = whole_list flag refl e
  after_fits (v ∷ []) e = one_version v flag refl e
  after_fits (v ∷ (s ∷ [])) e = one_segment v s e
  after_fits (v ∷ (s ∷ (c ∷ cs))) e = cc e

kind_answers : (kind : ListKind) (i : PlainInterest) (p : Policy) (asked : ListAsked) → is_present p asked.version ≡ true → list_of_kind kind i ≡ Some asked
    → AnswersByName (segment_name asked.kind p.table_number asked.segment) i.name i.can_be_prefix
kind_answers kind i p asked present e = by_prefix (begins_with (list_name kind) i.name) refl e
  where
    by_prefix : (b : Bool) → begins_with (list_name kind) i.name ≡ b → cond b (list_after kind i.can_be_prefix (drop (length (list_name kind)) i.name)) None ≡ Some asked
        → AnswersByName (segment_name asked.kind p.table_number asked.segment) i.name i.can_be_prefix
    by_prefix false is e = cc e
    by_prefix true is e =
        let prefix = (prefix_is (list_name kind) i.name).0 is in
        let later : drop (length (list_name kind)) i.name ≡ prefix.0 = ap (drop (length (list_name kind))) prefix.1 ∙ drop_at (list_name kind) prefix.0 (length (list_name kind)) refl in
        subst (λ (name : List Field). AnswersByName (segment_name asked.kind p.table_number asked.segment) name i.can_be_prefix) (sym prefix.1)
        (after_fits kind i.can_be_prefix p asked present prefix.0 (ap (list_after kind i.can_be_prefix) (sym later) ∙ e))

segment_answers : (i : PlainInterest) (p : Policy) (asked : ListAsked) → is_present p asked.version ≡ true → list_asked i ≡ Some asked
    → AnswersByName (segment_name asked.kind p.table_number asked.segment) i.name i.can_be_prefix
segment_answers i p asked present e = by_routes (list_of_kind RouteList i) refl e
  where
    by_routes : (o : Option ListAsked) → list_of_kind RouteList i ≡ o → option_or o (list_of_kind StrategyList i) ≡ Some asked
        → AnswersByName (segment_name asked.kind p.table_number asked.segment) i.name i.can_be_prefix
    by_routes (Some a) is e = kind_answers RouteList i p asked present (is ∙ e)
    by_routes None is e = kind_answers StrategyList i p asked present e

number_good : (kind n : ℕ) → 3 ≤ kind → kind < 253 → IsField (kind, shortest_nni n) × IsComponent (kind, shortest_nni n)
number_good kind n low high = ((omega arith, omega arith, omega (arith, length-shortest_eight n)), (omega arith, omega arith, λ le. absurd (omega (arith, le, low))))

segment_good : (kind : ListKind) (version segment : ℕ) → IsGood (segment_name kind version segment)
segment_good kind version segment =
    let front = list_is_name kind in
    let v = number_good VERSION version (omega arith) (omega arith) in
    let s = number_good SEGMENT segment (omega arith) (omega arith) in
    let back : List Field = (VERSION, shortest_nni version) ∷ (SEGMENT, shortest_nni segment) ∷ [] in (
      (all_append IsField (list_name kind) back front.0.0 (v.0, (s.0, tt)), refl),
      (by_kind kind, all_append IsComponent (list_name kind) back front.1.1 (v.1, (s.1, tt))),
    )
  where
    by_kind : (k : ListKind) → length (segment_name k version segment) ≤ 64
    by_kind RouteList = omega arith
    by_kind StrategyList = omega arith

-- ---- the node's own answers

-- the octets are a Data of the node's own, with a valid name that answers the Interest
pub record IsNamedFor (i : PlainInterest) (octets : List ℕ) : Type 0 where
  pub its : AnswersByItsName i octets
  pub valid : IsNameValue (octets_of its.name) its.name

reply_named : (p : Policy) (face : ℕ) (whole : List ℕ) (i : PlainInterest) (octets : List ℕ) → IsGood i.name → IsReplyToCommand p face whole i octets → IsNamedFor i octets
reply_named p face whole i octets valid reply =
    let its : AnswersByItsName i octets = record { name = i.name; meta = None; content = reply_content p face i reply.1.0; written = reply.1.2; answers = inl refl } in
    record { its = its; valid = valid }

one_sent : (face : ℕ) (a b : List ℕ) → passed ((face, a) ∷ []) ≡ passed ((face, b) ∷ []) → a ≡ b
one_sent face a b e =
    let sends : ◌≡◌ {A = List Send} ((face, a) ∷ []) ((face, b) ∷ []) = ap (λ (x : Answer). x.sends) e in
    let one : ◌≡◌ {A = Send} (face, a) (face, b) = cc (sends) in
    ap (λ (s : Send). s.1) one

never_passed : {A : Type 0} (sends : List Send) → dropped NoSegment ≡ passed sends → A
never_passed sends e = (let verdict : Dropped NoSegment ≡ Passed = ap (λ (x : Answer). x.verdict) e in cc verdict)

segment_named : (p : Policy) (face : ℕ) (i : PlainInterest) (octets : List ℕ) → IsSegmentAskedFor p face i octets → IsNamedFor i octets
segment_named p face i octets (asked, request, answer) = by_version (is_present p asked.version) refl answer
  where
    name : List Field
    name = segment_name asked.kind p.table_number asked.segment

    by_part : is_present p asked.version ≡ true → (part : Option (List ℕ × ℕ)) → segment_answer face None name part ≡ passed ((face, octets) ∷ []) → IsNamedFor i octets
    by_part is None e = never_passed _ e
    by_part is (Some part) e =
        let its : AnswersByItsName i octets = record {
          name = name;
          meta = meta_of (meta_fields (Some LIST_FRESHNESS) (Some part.1));
          content = part.0;
          written = sym (one_sent face (segment_data name part.0 part.1) octets e);
          answers = segment_answers i p asked is (for_list p face i asked request);
        } in
        record { its = its; valid = segment_good asked.kind p.table_number asked.segment }

    by_version : (b : Bool) → is_present p asked.version ≡ b
        → cond b (segment_answer face None name (segment_at (dataset_text p asked.kind) asked.segment)) (dropped NoSegment) ≡ passed ((face, octets) ∷ []) → IsNamedFor i octets
    by_version true is e = by_part is (segment_at (dataset_text p asked.kind) asked.segment) e
    by_version false is e = never_passed _ e

-- an Interest that is read has a valid name
asked_good : (octets whole : List ℕ) (i : PlainInterest) → AreOctets octets → frame_at octets ≡ Ok (AnInterest whole i) → IsGood i.name
asked_good octets whole i fits e =
    let is = (frame_found octets (AnInterest whole i) fits e).1.0.name in
    ((is.0.0, refl), is.1)

pub own_named : (p : Policy) (face : ℕ) (octets whole : List ℕ) (i : PlainInterest) (packet : List ℕ) → AreOctets octets → frame_at octets ≡ Ok (AnInterest whole i)
    → IsReplyToCommand p face whole i packet ⊎ IsSegmentAskedFor p face i packet → IsNamedFor i packet
own_named p face octets whole i packet fits e (inl reply) = reply_named p face whole i packet (asked_good octets whole i fits e) reply
own_named p face octets whole i packet fits e (inr segment) = segment_named p face i packet segment

-- if a Data of the node's own is read, it answers the Interest
pub named_answers : (i : PlainInterest) (octets : List ℕ) (d : PlainData) (digest : List ℕ) → IsNamedFor i octets → frame_at octets ≡ Ok (AData octets d)
    → IsTrue (answers d.name digest i.name i.can_be_prefix)
named_answers i octets d digest is e =
    let same = written_read is.its.name is.its.meta is.its.content octets d is.valid is.its.written e in
    subst (λ (n : List Field). IsTrue (answers n digest i.name i.can_be_prefix)) (sym same)
    ((answers_is is.its.name i.name digest i.can_be_prefix).1 (by_name is.its.answers))
  where
    by_name : AnswersByName is.its.name i.name i.can_be_prefix → Answers is.its.name digest i.name i.can_be_prefix
    by_name (inl same) = inl same
    by_name (inr prefix) = inr (inr (prefix.0, inl prefix.1))
