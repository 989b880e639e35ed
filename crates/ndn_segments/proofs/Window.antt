-- What an assembler holds.
use Rattle.std.proofs.Common.{◌≡◌, ℕ, ◌+◌, ◌-◌, ◌<◌, ◌≤◌, List, [], ◌∷◌, length, refl, sym, ap, ◌∙◌, arith, inl, inr}
use Rattle.std.specs.Prelude.{Some, Result, Ok, Err}
use Rattle.std.proofs.lemmas.Bool.{cases_eq}
use Rattle.ndn_tlv.specs.Element.{Field}
use Rattle.ndn_segments.specs.declared.fault.SegmentFault.{SegmentFault}
use Rattle.ndn_segments.specs.declared.assembler.Taken.{Taken}
use Rattle.ndn_segments.specs.declared.assembler.Taken.TheVariants.{Accepted, Repeated}
use Rattle.ndn_segments.specs.Segment.{PlainSegment}
use Rattle.ndn_segments.specs.Held.{content_at, in_order}
use Rattle.ndn_segments.specs.Assembling.{Assembly, start, answer_to, after_answer, accepting, places_with}
use Rattle.ndn_segments.specs.Assembles.{state_after}
use Rattle.ndn_segments.proofs.Places.{content_at-nil, placed-here, placed-other}
use Rattle.ndn_segments.proofs.Pieces.{none_some, same_some}
use Rattle.ndn_segments.proofs.Accepting.{IsFit, fit}
use Rattle.ndn_segments.proofs.Runs.{at_gap}
use Rattle.ndn_segments.proofs.Complete.{keeps}

abbrev IsBounded : Assembly → Type 0
IsBounded a = (index : ℕ) (content : List ℕ) → content_at a.held index ≡ Some content → (index < a.window) × (length content ≤ a.limit)

bounded_on : (a : Assembly) (s : PlainSegment) → IsFit a s → IsBounded a → IsBounded (accepting a s)
bounded_on a s ok before index content is =
    let places = places_with a s in
    let here = length (in_order places) + index in
    let at : content_at places here ≡ Some content = sym (at_gap places here index refl) ∙ is in
    elim (cases_eq here (s.number - a.next)) [
      | inl same ↦
          let mine : s.content ≡ content = same_some s.content content (sym (placed-here a.held (s.number - a.next) s.content) ∙ ap (content_at places) (sym same) ∙ at) in
          (omega (arith, same, ok.near), omega (arith, ap length mine, ok.short))
      | inr apart ↦
          let old = before here content (sym (placed-other a.held (s.number - a.next) here s.content apart) ∙ at) in
          (omega (arith, old.0), old.1)
    ]

bounded_after : (a : Assembly) (s : PlainSegment) (answer : Result Taken SegmentFault) → answer_to a s ≡ answer → IsBounded a → IsBounded (after_answer answer a s)
bounded_after a s (Ok Accepted) is before = bounded_on a s (fit a s is) before
bounded_after a s (Ok Repeated) is before = before
bounded_after a s (Err why) is before = before

bounded : (stem : List Field) (limit window : ℕ) (received : List PlainSegment) → IsBounded (state_after (start stem limit window) received)
bounded stem limit window [] = λ index content is. absurd (none_some _ content (content_at-nil index) is)
bounded stem limit window (s ∷ earlier) = bounded_after (state_after (start stem limit window) earlier) s _ refl (bounded stem limit window earlier)

pub window_held : (stem : List Field) (limit window : ℕ) (received : List PlainSegment) (index : ℕ) (content : List ℕ) → content_at (state_after (start stem limit window) received).held index ≡ Some content
    → (index < window) × (length content ≤ limit)
window_held stem limit window received index content is =
    let kept = keeps (start stem limit window) received in
    let held = bounded stem limit window received index content is in
    (omega (arith, held.0, kept.1), omega (arith, held.1, kept.0))
