-- What is true of an assembler after any list of segments.
use Rattle.std.proofs.Common.{◌≡◌, ◌≢◌, ℕ, ◌+◌, ◌-◌, ◌<◌, ◌≤◌, zero, suc, false, List, [], ◌∷◌, ◌++◌, length, refl, sym, ap, subst, ◌∙◌, arith, inl, inr, append-nil, length-append, zero-add}
use Rattle.std.specs.Prelude.{Option, Some, None, Result, Ok, Err, slice_get}
use Rattle.std.specs.List.{concat}
use Rattle.std.proofs.lemmas.Bool.{cases_eq, eqb-true, not-false}
use Rattle.std.proofs.lemmas.List.Folds.{concat-append}
use Rattle.ndn_tlv.specs.Element.{Field}
use Rattle.ndn_segments.specs.declared.fault.SegmentFault.{SegmentFault}
use Rattle.ndn_segments.specs.declared.assembler.Taken.{Taken}
use Rattle.ndn_segments.specs.declared.assembler.Taken.TheVariants.{Accepted, Repeated}
use Rattle.ndn_segments.specs.Segment.{PlainSegment}
use Rattle.ndn_segments.specs.Held.{Places, content_at, placed, in_order, from_gap}
use Rattle.ndn_segments.specs.Assembling.{Assembly, start, answer_to, after_answer, octets_with, accepting, places_with, is_other}
use Rattle.ndn_segments.specs.Assembles.{Has, state_after, written_after, accepted_of, if_accepted}
use Rattle.ndn_segments.proofs.Places.{content_at-nil, placed-here, placed-other}
use Rattle.ndn_segments.proofs.Pieces.{none_some, same_some}
use Rattle.ndn_segments.proofs.Accepting.{IsFit, fit}

-- ---- places from the first gap on

-- placing a content from the first gap on is placing it in the whole list
pub order_after : (all : Places) (number index : ℕ) (content : List ℕ) → number ≡ length (in_order all) + index
    → in_order (placed all number content) ≡ in_order all ++ in_order (placed (from_gap all) index content)
order_after [] number index content is = ap (λ (n : ℕ). in_order (placed [] n content)) (is ∙ zero-add index)
order_after (None ∷ all) number index content is = ap (λ (n : ℕ). in_order (placed (None ∷ all) n content)) (is ∙ zero-add index)
order_after (Some c ∷ all) zero index content is = absurd (omega (arith, is))
order_after (Some c ∷ all) (suc number) index content is = ap (λ (cs : List (List ℕ)). c ∷ cs) (order_after all number index content (omega (arith, is)))

pub gap_after : (all : Places) (number index : ℕ) (content : List ℕ) → number ≡ length (in_order all) + index
    → from_gap (placed all number content) ≡ from_gap (placed (from_gap all) index content)
gap_after [] number index content is = ap (λ (n : ℕ). from_gap (placed [] n content)) (is ∙ zero-add index)
gap_after (None ∷ all) number index content is = ap (λ (n : ℕ). from_gap (placed (None ∷ all) n content)) (is ∙ zero-add index)
gap_after (Some c ∷ all) zero index content is = absurd (omega (arith, is))
gap_after (Some c ∷ all) (suc number) index content is = gap_after all number index content (omega (arith, is))

pub at_gap : (all : Places) (number index : ℕ) → number ≡ length (in_order all) + index → content_at (from_gap all) index ≡ content_at all number
at_gap [] number index is = content_at-nil index ∙ sym (content_at-nil number)
at_gap (None ∷ all) number index is = ap (content_at (None ∷ all)) (sym (is ∙ zero-add index))
at_gap (Some c ∷ all) zero index is = absurd (omega (arith, is))
at_gap (Some c ∷ all) (suc number) index is = at_gap all number index (omega (arith, is))

-- before the first gap the list is the contents in order
pub before_gap : (all : Places) (number : ℕ) → number < length (in_order all) → content_at all number ≡ slice_get (in_order all) number
before_gap [] number lt = absurd (omega (arith, lt))
before_gap (None ∷ all) number lt = absurd (omega (arith, lt))
before_gap (Some c ∷ all) zero lt = refl
before_gap (Some c ∷ all) (suc number) lt = before_gap all number (omega (arith, lt))

-- ---- the invariant of runs

-- `accepted` has been accepted, and `written` has been written; `all` has all contents, from
-- segment 0 on
pub record Stands (accepted : List PlainSegment) (written : List ℕ) (a : Assembly) : Type 0 where
  pub all : Places
  pub next : a.next ≡ length (in_order all)
  pub held : a.held ≡ from_gap all
  pub octets : written ≡ concat (in_order all)
  pub told : (number : ℕ) (content : List ℕ) → content_at all number ≡ Some content
      → (s : PlainSegment) × Has accepted s × (s.number ≡ number) × (s.content ≡ content)
  pub seen : (s : PlainSegment) → Has accepted s
      → (content_at all s.number ≡ Some s.content) × (a.last ≡ Some s.last) × (s.number ≤ s.last)
  pub last : (last : ℕ) → a.last ≡ Some last → (s : PlainSegment) × Has accepted s × (s.last ≡ last)

pub begins : (stem : List Field) (limit window : ℕ) → Stands [] [] (start stem limit window)
begins stem limit window = record {
  all = [];
  next = refl;
  held = refl;
  octets = refl;
  told = λ number content at. absurd (none_some _ content (content_at-nil number) at);
  seen = λ s has. absurd has;
  last = λ last is. absurd (none_some _ last refl is);
}

same_last : (known : Option ℕ) (mine other : ℕ) → is_other known mine ≡ false → known ≡ Some other → other ≡ mine
same_last None mine other agrees is = absurd cc
same_last (Some last) mine other agrees is = same_some other last (sym is) ∙ eqb-true last mine (not-false _ agrees)

-- the content at the place of a segment that fits has not come before
free : (accepted : List PlainSegment) (written : List ℕ) (a : Assembly) (s : PlainSegment) → (st : Stands accepted written a) → IsFit a s → content_at st.all s.number ≡ None
free accepted written a s st ok =
    sym (at_gap st.all s.number (s.number - a.next) (omega (arith, st.next, ok.ahead)))
    ∙ ap (λ (p : Places). content_at p (s.number - a.next)) (sym st.held)
    ∙ ok.fresh

pub goes_on : (accepted : List PlainSegment) (written : List ℕ) (a : Assembly) (s : PlainSegment) → Stands accepted written a → IsFit a s
    → Stands (s ∷ accepted) (written ++ concat (in_order (places_with a s))) (accepting a s)
goes_on accepted written a s st ok =
    let index = s.number - a.next in
    let at : s.number ≡ length (in_order st.all) + index = omega (arith, st.next, ok.ahead) in
    let none = free accepted written a s st ok in
    let mine : placed a.held index s.content ≡ placed (from_gap st.all) index s.content = ap (λ (p : Places). placed p index s.content) st.held in
    let order : in_order (placed st.all s.number s.content) ≡ in_order st.all ++ in_order (places_with a s) =
    order_after st.all s.number index s.content at ∙ ap (λ (p : Places). in_order st.all ++ in_order p) (sym mine) in
    record {
      all = placed st.all s.number s.content;
      next = ap (λ (n : ℕ). n + length (in_order (places_with a s))) st.next
          ∙ sym (length-append (in_order st.all) (in_order (places_with a s)))
          ∙ ap length (sym order);
      held = ap from_gap mine ∙ sym (gap_after st.all s.number index s.content at);
      octets = ap (λ (t : List ℕ). t ++ concat (in_order (places_with a s))) st.octets
          ∙ sym (concat-append (in_order st.all) (in_order (places_with a s)))
          ∙ ap concat (sym order);
      told = λ number content is. elim (cases_eq number s.number) [
        | inl same ↦
            (s, inl refl, sym same, same_some s.content content (sym (placed-here st.all s.number s.content) ∙ ap (content_at (placed st.all s.number s.content)) (sym same) ∙ is))
        | inr apart ↦
            let old = st.told number content (sym (placed-other st.all s.number number s.content apart) ∙ is) in
            (old.0, inr old.1, old.2, old.3)
      ];
      seen = λ t has. elim has [
        | inl same ↦ subst (λ (u : PlainSegment). (content_at (placed st.all s.number s.content) u.number ≡ Some u.content) × (Some s.last ≡ Some u.last) × (u.number ≤ u.last)) (sym same) (placed-here st.all s.number s.content, refl, ok.within)
        | inr old ↦
            let was = st.seen t old in
            let apart : t.number ≢ s.number = λ same. none_some (content_at st.all s.number) t.content none (ap (content_at st.all) (sym same) ∙ was.0) in
            (placed-other st.all s.number t.number s.content apart ∙ was.0, ap (λ (n : ℕ). Some n) (sym (same_last a.last s.last t.last ok.agrees was.1)), was.2)
      ];
      last = λ last is. (s, inl refl, same_some s.last last is);
    }

-- an answer other than `Accepted` changes nothing
stays : (accepted : List PlainSegment) (written : List ℕ) (a : Assembly) → Stands accepted written a → Stands accepted (written ++ []) a
stays accepted written a st = subst (λ (w : List ℕ). Stands accepted w a) (sym (append-nil written)) st

answered : (accepted : List PlainSegment) (written : List ℕ) (a : Assembly) (s : PlainSegment) (answer : Result Taken SegmentFault) → answer_to a s ≡ answer → Stands accepted written a
    → Stands (if_accepted answer s accepted) (written ++ octets_with answer a s) (after_answer answer a s)
answered accepted written a s (Ok Accepted) is st = goes_on accepted written a s st (fit a s is)
answered accepted written a s (Ok Repeated) is st = stays accepted written a st
answered accepted written a s (Err why) is st = stays accepted written a st

pub stands : (stem : List Field) (limit window : ℕ) (received : List PlainSegment) → Stands (accepted_of (start stem limit window) received) (written_after (start stem limit window) received) (state_after (start stem limit window) received)
stands stem limit window [] = begins stem limit window
stands stem limit window (s ∷ earlier) =
    let first = start stem limit window in
    answered (accepted_of first earlier) (written_after first earlier) (state_after first earlier) s _ refl (stands stem limit window earlier)
