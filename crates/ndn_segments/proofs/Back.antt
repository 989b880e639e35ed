-- How the FinalBlockId of a written segment is read.
use Rattle.std.proofs.Common.{◌≡◌, ℕ, ◌-◌, ◌^◌, ◌<◌, ◌≤◌, List, [], ◌∷◌, ◌++◌, length, refl, sym, ap, subst, ◌∙◌, append-nil, arith, length-append}
use Rattle.std.specs.Prelude.{Option, Some, None, Result, Ok, Err, MatchOption, option_and_then, unwrap_or, ⊤, Bool, true, false, nat_lt, ◌==◌, if◌then◌else◌}
use Rattle.std.specs.List.{AllByRecursion}
use Rattle.std.proofs.lemmas.List.Concat.{flat_map-cons}
use Rattle.ndn_tlv.specs.Number.{shortest_nni}
use Rattle.ndn_tlv.specs.Element.{Field, IsField, element}
use Rattle.ndn_tlv.specs.Fields.{first_of, single}
use Rattle.ndn_tlv.specs.Reading.{elements_of}
use Rattle.ndn_tlv.specs.Writing.{octets}
use Rattle.ndn_tlv.proofs.Fields.{elements_again}
use Rattle.ndn_tlv.proofs.Lengths.{length-element}
use Rattle.std.proofs.lemmas.Bool.{ltb-false}
use Rattle.ndn_names.specs.declared.name.Name.{Name}
use Rattle.ndn_names.specs.View.{components}
use Rattle.ndn_packets.specs.Writing.{meta_fields, meta_of, signed_data, plain_data_of, data_fields, data_text, data_asked, data_refusal, fields_covered}
use Rattle.ndn_packets.specs.Packet.{AData}
use Rattle.ndn_packets.specs.Grammar.{IsData}
use Rattle.ndn_packets.specs.Covered.{Covered}
use Rattle.ndn_packets.specs.declared.data_writer.DataWriter.{DataWriter}
use Rattle.std.specs.Borrow.{Bor}
use Rattle.ndn_packets.specs.declared.signature.Sign.{Sign}
use Rattle.ndn_packets.specs.declared.fault.WriteFault.TheVariants as memory
use Rattle.ndn_packets.specs.declared.fault.WriteFault.{WriteFault}
use Rattle.ndn_segments.specs.Names.{version_name, final_value}
use Rattle.ndn_segments.specs.Segment.{IsSegmentOf}
use Rattle.ndn_segments.specs.Cut.{Plan, name_at, last_of, meta_at, segment_text, segment_data, writer_for, IsSegment}

abbrev IsType : Field → Type 0
IsType f = (1 ≤ f.0) × (f.0 < 2 ^ 32)

octets-cons : (f : Field) (fields : List Field) → octets (f ∷ fields) ≡ element f ++ octets fields
octets-cons f fields = flat_map-cons element f fields

-- fields are valid if their types are, and all of them together are short enough
fields_fit : (fields : List Field) → AllByRecursion IsType fields → length (octets fields) < 2 ^ 64 → AllByRecursion IsField fields
fields_fit [] types lt = tt
fields_fit (f ∷ fields) types lt =
    let size = ap length (octets-cons f fields) ∙ length-append (element f) (octets fields) in
    let value = length-element f.0 f.1 in
    ((types.0.0, types.0.1, omega (arith, lt, size, value)), fields_fit fields types.1 (omega (arith, lt, size)))

one_read : (f : Field) → IsField f → elements_of (element f) ≡ Ok f ∷ []
one_read f ok = ap elements_of (sym (append-nil (element f)) ∙ sym (flat_map-cons element f [])) ∙ elements_again (f ∷ []) (ok, tt)

one_fits : (kind : ℕ) (value : List ℕ) → IsType (kind, value) → length (element (kind, value)) < 2 ^ 64 → IsField (kind, value)
one_fits kind value type lt = (type.0, type.1, omega (arith, lt, length-element kind value))

single_read : (kind : ℕ) (value : List ℕ) → IsType (kind, value) → length (element (kind, value)) < 2 ^ 64 → (kind == kind) ≡ true → single kind (elements_of (element (kind, value))) ≡ Some value
single_read kind value type lt same = ap (single kind) (one_read (kind, value) (one_fits kind value type lt)) ∙ rw same refl

-- the FinalBlockId in a MetaInfo that was written
last_read : (freshness : Option ℕ) (last : ℕ) → length (octets (meta_fields freshness (Some last))) < 2 ^ 64
    → option_and_then (λ component. single 50 (elements_of component)) (first_of 26 (elements_of (octets (meta_fields freshness (Some last))))) ≡ Some (shortest_nni last)
last_read None last lt =
    let component = element (50, shortest_nni last) in
    let fields : List Field = (26, component) ∷ [] in
    let valid = fields_fit fields ((omega arith, omega arith), tt) lt in
    ap (λ es. option_and_then (λ c. single 50 (elements_of c)) (first_of 26 es)) (elements_again fields valid)
    ∙ single_read 50 (shortest_nni last) (omega arith, omega arith) valid.0.2 refl
last_read (Some freshness) last lt =
    let component = element (50, shortest_nni last) in
    let fields : List Field = (25, shortest_nni freshness) ∷ ((26, component) ∷ []) in
    let valid = fields_fit fields ((omega arith, omega arith), ((omega arith, omega arith), tt)) lt in
    ap (λ es. option_and_then (λ c. single 50 (elements_of c)) (first_of 26 es)) (elements_again fields valid)
    ∙ single_read 50 (shortest_nni last) (omega arith, omega arith) valid.1.0.2 refl

-- the fields of a Data with a MetaInfo and a Content
abbrev five : List ℕ → List ℕ → List ℕ → List ℕ → List ℕ → List Field
five name meta content info value = (7, name) ∷ ((20, meta) ∷ ((21, content) ∷ ((22, info) ∷ ((23, value) ∷ []))))

five_valid : (name meta content info value : List ℕ) → length (octets (five name meta content info value)) < 2 ^ 64 → AllByRecursion IsField (five name meta content info value)
five_valid name meta content info value lt =
    fields_fit (five name meta content info value) ((omega arith, omega arith), ((omega arith, omega arith), ((omega arith, omega arith), ((omega arith, omega arith), ((omega arith, omega arith), tt))))) lt

five_read : (name meta content info value : List ℕ) (found : Option (List ℕ)) → length (element (6, octets (five name meta content info value))) ≤ 8800
    → (length meta < 2 ^ 64 → option_and_then (λ component. single 50 (elements_of component)) (first_of 26 (elements_of meta)) ≡ found)
    → final_value (element (6, octets (five name meta content info value))) ≡ found
five_read name meta content info value found short inner =
    let fields = five name meta content info value in
    let whole = octets fields in
    let outer = single_read 6 whole (omega arith, omega arith) (omega (arith, short)) refl in
    let valid = five_valid name meta content info value (omega (arith, short, length-element 6 whole)) in
    ap (λ o. option_and_then (λ last. single 50 (elements_of last)) (option_and_then (λ m. first_of 26 (elements_of m)) (option_and_then (λ fs. first_of 20 (elements_of fs)) o))) outer
    ∙ ap (λ es. option_and_then (λ last. single 50 (elements_of last)) (option_and_then (λ m. first_of 26 (elements_of m)) (first_of 20 es))) (elements_again fields valid)
    ∙ inner valid.1.0.2

final_at : (sign : Sign) (name : List Field) (freshness : Option ℕ) (last : ℕ) (piece : List ℕ) → length (signed_data sign name (meta_of (meta_fields freshness (Some last))) (Some piece)) ≤ 8800
    → final_value (signed_data sign name (meta_of (meta_fields freshness (Some last))) (Some piece)) ≡ Some (shortest_nni last)
final_at sign name None last piece short = five_read _ _ _ _ _ _ short (λ lt. last_read None last lt)
final_at sign name (Some freshness) last piece short = five_read _ _ _ _ _ _ short (λ lt. last_read (Some freshness) last lt)

-- a segment that was written is read as this segment
pub is_segment : (p : Plan) (number : ℕ) (piece : List ℕ) → number < 2 ^ 64 → last_of p < 2 ^ 64 - 1 → length (segment_text p number piece) ≤ 8800
    → IsSegmentOf (version_name p.name p.version) (segment_text p number piece) (segment_data p number piece) (record { number = number; last = last_of p; content = piece })
is_segment p number piece number_lt last_lt short = record {
  name = refl;
  last = final_at p.sign (name_at p number) p.freshness (last_of p) piece short;
  content = refl;
  number_fits = number_lt;
  last_fits = last_lt;
}

not_long : (n : ℕ) (b : Bool) → nat_lt 8800 n ≡ b → (if b then Some memory.TooLong else None) ≡ None → n ≤ 8800
not_long n true is none = absurd cc
not_long n false is none = ltb-false 8800 n is

-- a Data that was written was not refused
pub not_refused : (refusal : Option WriteFault) (x : Unit {0}) → MatchOption refusal ⊤ (λ fault. ◌≡◌ {A = Result (Unit {0}) WriteFault} (Ok x) (Err fault)) → refusal ≡ None
not_refused None x told = refl
not_refused (Some fault) x told = absurd cc

-- what is known of a Data that was written is known of the segment
pub segment_of_writer : (p : Plan) (number : ℕ) (piece : Bor (List ℕ)) (view : Name) (w : DataWriter) → w ≡ writer_for p view piece → components view ≡ name_at p number → data_refusal w ≡ None
    → IsData (data_text w) (data_asked w) → Covered (AData (data_text w) (data_asked w)) (octets (fields_covered w)) [] → number < 2 ^ 64 → last_of p < 2 ^ 64 - 1
    → IsSegment p number piece.now
segment_of_writer p number piece view w is named none grammar signed number_lt last_lt =
    let text = λ (n : List Field). signed_data p.sign n (meta_at p) (Some piece.now) in
    let asked = λ (n : List Field). plain_data_of p.sign n (unwrap_or p.freshness 0) (meta_at p) (Some piece.now) in
    let covered = λ (n : List Field). octets (data_fields p.sign n (meta_at p) (Some piece.now)) in
    let length_is = ap (λ (n : List Field). length (text n)) named in
    let refusal = ap (λ (v : DataWriter). data_refusal v) (sym is) ∙ none in
    let at_view : length (text (components view)) ≤ 8800 = not_long (length (text (components view))) _ refl refusal in
    record {
      grammar = subst (λ (n : List Field). IsData (text n) (asked n)) named (subst (λ (v : DataWriter). IsData (data_text v) (data_asked v)) is grammar);
      signed = subst (λ (n : List Field). Covered (AData (text n) (asked n)) (covered n) []) named (subst (λ (v : DataWriter). Covered (AData (data_text v) (data_asked v)) (octets (fields_covered v)) []) is signed);
      segment = is_segment p number piece.now number_lt last_lt (omega (arith, at_view, length_is));
    }
