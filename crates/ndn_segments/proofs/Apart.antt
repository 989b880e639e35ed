-- Each Data is at most one segment of one version of a file.
use Rattle.std.proofs.Common.{◌≡◌, ℕ, ◌-◌, ◌^◌, ◌<◌, List, [], ◌∷◌, ◌++◌, length, sym, ap, subst, ◌∙◌, arith, min, refl, ◌*◌}
use Rattle.std.specs.Prelude.{Some, slice_get}
use Rattle.ndn_tlv.specs.Element.{Field}
use Rattle.ndn_tlv.specs.Number.{shortest_nni}
use Rattle.ndn_names.specs.declared.component_type.TheConstants.{SEGMENT, VERSION}
use Rattle.ndn_packets.specs.Packet.{PlainData}
use Rattle.ndn_segments.specs.declared.fault.SegmentFault.{SegmentFault}
use Rattle.ndn_segments.specs.declared.fault.SegmentFault.TheVariants as fault
use Rattle.ndn_segments.specs.Pieces.{piece, last_piece}
use Rattle.ndn_segments.specs.Names.{version_name}
use Rattle.ndn_segments.specs.Segment.{PlainSegment, IsSegmentOf, IsNoSegment}
use Rattle.ndn_segments.specs.Cut.{Plan, piece_len, segment_text, segment_data, IsSegment}
use Rattle.ndn_segments.specs.Assembles.{segment}
use Rattle.ndn_segments.proofs.Numbers.{shortest_apart}
use Rattle.ndn_segments.proofs.Named.{same_after}
use Rattle.ndn_segments.proofs.Pieces.{same_some, length-piece}
use Rattle.ndn_segments.proofs.Assembled.{same_segment}

pub one_segment : (stem : List Field) (whole : List ℕ) (d : PlainData) (a b : PlainSegment) → IsSegmentOf stem whole d a → IsSegmentOf stem whole d b → a ≡ b
one_segment stem whole d a b one other =
    let component : (SEGMENT, shortest_nni a.number) ≡ (SEGMENT, shortest_nni b.number) = same_after stem d.name (SEGMENT, shortest_nni a.number) (SEGMENT, shortest_nni b.number) one.name other.name in
    let number : a.number ≡ b.number = shortest_apart a.number b.number one.number_fits other.number_fits (ap (λ (f : Field). f.1) component) in
    let last : a.last ≡ b.last = shortest_apart a.last b.last (omega (arith, one.last_fits)) (omega (arith, other.last_fits)) (same_some (shortest_nni a.last) (shortest_nni b.last) (sym one.last ∙ other.last)) in
    same_segment a b.number b.last b.content number last (one.content ∙ sym other.content)

pub no_segment : (stem : List Field) (whole : List ℕ) (d : PlainData) (s : PlainSegment) (why : SegmentFault) → IsSegmentOf stem whole d s → IsNoSegment stem whole d why → ⊥
no_segment stem whole d s fault.OtherFile is none = none (SEGMENT, shortest_nni s.number) is.name
no_segment stem whole d s fault.NoSegmentNumber is none = none.1 s.number is.number_fits is.name
no_segment stem whole d s fault.NoFinalBlockId is none = none.1 s.last is.last_fits is.last
no_segment stem whole d s fault.OtherFinalBlockId is none = none
no_segment stem whole d s fault.AboveLast is none = none
no_segment stem whole d s fault.ContentTooLong is none = none
no_segment stem whole d s fault.BeyondWindow is none = none
no_segment stem whole d s fault.OtherContent is none = none
no_segment stem whole d s fault.Memory is none = none

-- the component before the last one of a name
get_before : (name : List Field) (c d : Field) → slice_get ((name ++ c ∷ []) ++ d ∷ []) (length name) ≡ Some c
get_before [] c d = refl
get_before (n ∷ name) c d = get_before name c d

pub one_version : (name : List Field) (v w : ℕ) (whole : List ℕ) (d : PlainData) (s t : PlainSegment) → v < 2 ^ 64 → w < 2 ^ 64 → IsSegmentOf (version_name name v) whole d s → IsSegmentOf (version_name name w) whole d t → v ≡ w
one_version name v w whole d s t v_lt w_lt one other =
    let first : slice_get d.name (length name) ≡ Some (VERSION, shortest_nni v) = ap (λ (n : List Field). slice_get n (length name)) one.name ∙ get_before name _ _ in
    let second : slice_get d.name (length name) ≡ Some (VERSION, shortest_nni w) = ap (λ (n : List Field). slice_get n (length name)) other.name ∙ get_before name _ _ in
    shortest_apart v w v_lt w_lt (ap (λ (f : Field). f.1) (same_some _ _ (sym first ∙ second)))

pub asked_len : (p : Plan) (file : List ℕ) (number : ℕ) → p.len ≡ length file → length (piece p.size file number) ≡ piece_len p number
asked_len p file number is = length-piece p.size number file ∙ ap (λ (n : ℕ). min p.size (n - number * p.size)) (sym is)

pub of_the_file : (p : Plan) (file : List ℕ) (number : ℕ) → p.len ≡ length file → IsSegment p number (piece p.size file number)
    → IsSegmentOf (version_name p.name p.version) (segment_text p number (piece p.size file number)) (segment_data p number (piece p.size file number)) (segment p.size file number)
of_the_file p file number is written =
    let content = piece p.size file number in
    subst (λ (n : ℕ). IsSegmentOf (version_name p.name p.version) (segment_text p number content) (segment_data p number content) (record { number = number; last = last_piece p.size n; content = content })) is written.segment
