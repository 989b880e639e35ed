-- The files that follow from segments.
use Rattle.std.proofs.Common.{◌≡◌, ℕ, ◌+◌, ◌<◌, ◌≤◌, ◌⊎◌, List, [], ◌∷◌, length, sym, ap, subst, ◌∙◌, arith, inl, inr}
use Rattle.std.specs.Prelude.{Some, Result, Ok, Err, slice_index_or}
use Rattle.std.specs.List.{concat}
use Rattle.std.proofs.lemmas.Option.{slice_get_within, slice_get-get_or}
use Rattle.ndn_segments.specs.declared.fault.SegmentFault.{SegmentFault}
use Rattle.ndn_segments.specs.declared.assembler.Taken.{Taken}
use Rattle.ndn_segments.specs.declared.assembler.Taken.TheVariants.{Accepted, Repeated}
use Rattle.ndn_segments.specs.Pieces.{last_piece, piece, pieces}
use Rattle.ndn_segments.specs.Segment.{PlainSegment}
use Rattle.ndn_segments.specs.Held.{content_at, in_order}
use Rattle.ndn_segments.specs.Assembling.{Assembly, IsFinished}
use Rattle.ndn_segments.specs.Assembles.{Assembles, Has, AreOf, IsWritten, accepted_of, if_accepted}
use Rattle.ndn_segments.proofs.Pieces.{same_some, same_by_get, get-pieces, length-pieces, joined}
use Rattle.ndn_segments.proofs.Runs.{Stands, before_gap}

-- ---- accepted segments

pub written_of : (accepted : List PlainSegment) (written : List ℕ) (a : Assembly) → Stands accepted written a → IsWritten accepted a.next written
written_of accepted written a st = record {
  contents = in_order st.all;
  count = sym st.next;
  joined = st.octets;
  each = λ number content at. st.told number content (before_gap st.all number (slice_get_within (in_order st.all) number content at) ∙ at);
}

if_came : (answer : Result Taken SegmentFault) (first s : PlainSegment) (accepted earlier : List PlainSegment) → Has (if_accepted answer first accepted) s → (Has accepted s → Has earlier s) → (s ≡ first) ⊎ Has earlier s
if_came (Ok Accepted) first s accepted earlier (inl same) others = inl same
if_came (Ok Accepted) first s accepted earlier (inr has) others = inr (others has)
if_came (Ok Repeated) first s accepted earlier has others = inr (others has)
if_came (Err why) first s accepted earlier has others = inr (others has)

-- what was accepted had come
pub accepted_came : (first : Assembly) (received : List PlainSegment) (s : PlainSegment) → Has (accepted_of first received) s → Has received s
accepted_came first [] s has = has
accepted_came first (r ∷ received) s has = if_came _ r s (accepted_of first received) received has (accepted_came first received s)

pub same_segment : (s : PlainSegment) (number last : ℕ) (content : List ℕ) → s.number ≡ number → s.last ≡ last → s.content ≡ content → s ≡ record { number = number; last = last; content = content }
same_segment s number last content a b c = λ i. record { number = a i; last = b i; content = c i }

-- a finished assembler has a content for each number up to the last one
each_there : (accepted : List PlainSegment) (written : List ℕ) (a : Assembly) (st : Stands accepted written a) (last number : ℕ) → a.next ≡ last + 1 → number ≤ last
    → content_at st.all number ≡ Some (slice_index_or (in_order st.all) number [])
each_there accepted written a st last number next le =
    let lt : number < length (in_order st.all) = omega (arith, st.next, next, le) in
    before_gap st.all number lt ∙ slice_get-get_or (in_order st.all) number [] lt

pub assembled : (accepted : List PlainSegment) (written : List ℕ) (a : Assembly) → Stands accepted written a → IsFinished a → Assembles accepted written
assembled accepted written a st finished =
    let last = finished.0 in
    record {
      last = last;
      contents = in_order st.all;
      count = sym st.next ∙ finished.2;
      joined = st.octets;
      each = λ number le.
          let content = slice_index_or (in_order st.all) number [] in
          let told = st.told number content (each_there accepted written a st last number finished.2 le) in
          let seen = st.seen told.0 told.1 in
          subst (Has accepted) (same_segment told.0 number last content told.2 (same_some told.0.last last (sym seen.1 ∙ finished.1)) told.3) told.1;
      agree = λ s has.
          let seen = st.seen s has in
          let same : s.last ≡ last = same_some s.last last (sym seen.1 ∙ finished.1) in
          (same, sym (before_gap st.all s.number (omega (arith, seen.2, same, finished.2, st.next))) ∙ seen.0);
    }

-- ---- one file

pub one_file : (segments : List PlainSegment) (a b : List ℕ) → Assembles segments a → Assembles segments b → a ≡ b
one_file segments a b one other =
    let first = one.each 0 (omega arith) in
    let same_last : one.last ≡ other.last = (other.agree _ first).0 in
    let contents : one.contents ≡ other.contents =
    same_by_get one.contents other.contents (one.count ∙ ap (λ (n : ℕ). n + 1) same_last ∙ sym other.count) (λ k content at.
    let lt = slice_get_within one.contents k content at in
    let here : slice_index_or one.contents k [] ≡ content = same_some (slice_index_or one.contents k []) content (sym (slice_get-get_or one.contents k [] lt) ∙ at) in
    (other.agree _ (one.each k (omega (arith, lt, one.count)))).1 ∙ ap (λ (t : List ℕ). Some t) here) in
    one.joined ∙ ap concat contents ∙ sym other.joined

-- ---- segments of one file

-- a finished assembler to which only segments of one file came has written this file
pub whole : (size : ℕ) (file : List ℕ) (accepted : List PlainSegment) (written : List ℕ) (a : Assembly) → 1 ≤ size → AreOf size file accepted → Stands accepted written a → IsFinished a → written ≡ file
whole size file accepted written a pos of_file st finished =
    let last = last_piece size (length file) in
    let some = st.last finished.0 finished.1 in
    let same : finished.0 ≡ last = sym some.2 ∙ ap (λ (s : PlainSegment). s.last) (of_file some.0 some.1).1 in
    let contents : in_order st.all ≡ pieces size file =
    same_by_get (in_order st.all) (pieces size file) (omega (arith, st.next, finished.2, same, length-pieces size file)) (λ k content at.
    let lt = slice_get_within (in_order st.all) k content at in
    let told = st.told k content (before_gap st.all k lt ∙ at) in
    let mine = of_file told.0 told.1 in
    get-pieces size k file (omega (arith, lt, st.next, finished.2, same))
    ∙ ap (λ (t : List ℕ). Some t) (ap (piece size file) (sym told.2) ∙ sym (ap (λ (s : PlainSegment). s.content) mine.1) ∙ told.3)) in
    st.octets ∙ ap concat contents ∙ joined size file pos
