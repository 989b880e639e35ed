-- When an assembler is finished, and which segments it accepts.
use Rattle.std.proofs.Common.{◌≡◌, ◌≢◌, ℕ, ◌+◌, ◌-◌, ◌<◌, ◌≤◌, false, not, eqb, List, [], ◌∷◌, length, refl, sym, ap, subst, ◌∙◌, arith, inl, inr, add-zero}
use Rattle.std.specs.Prelude.{Option, Some, None, IfSome, Result, Ok, Err}
use Rattle.std.proofs.lemmas.Bool.{cases_lt, cases_eq, le-ltb, lt-leb, eq-eqb}
use Rattle.std.proofs.lemmas.Option.{slice_get-get_or}
use Rattle.ndn_tlv.specs.Element.{Field}
use Rattle.ndn_segments.specs.declared.fault.SegmentFault.{SegmentFault}
use Rattle.ndn_segments.specs.declared.assembler.Taken.{Taken}
use Rattle.ndn_segments.specs.declared.assembler.Taken.TheVariants.{Accepted, Repeated}
use Rattle.ndn_segments.specs.Pieces.{last_piece}
use Rattle.ndn_segments.specs.Segment.{PlainSegment}
use Rattle.ndn_segments.specs.Held.{Places, content_at, in_order}
use Rattle.ndn_segments.specs.Assembling.{Assembly, start, answer_to, after_answer, is_other, IsFinished, IsWanted}
use Rattle.ndn_segments.specs.Assembles.{Has, AreOf, segment, state_after, written_after, accepted_of, if_accepted}
use Rattle.ndn_segments.proofs.Places.{gap_first}
use Rattle.ndn_segments.proofs.Pieces.{none_some, same_some, length-piece}
use Rattle.ndn_segments.proofs.Accepting.{IsFit}
use Rattle.ndn_segments.proofs.Runs.{Stands, stands, before_gap, at_gap}
use Rattle.ndn_segments.proofs.Assembled.{accepted_came, whole}

-- ---- what is accepted

pub accepts : (a : Assembly) (s : PlainSegment) → IsFit a s → answer_to a s ≡ Ok Accepted
accepts a s ok =
    rw (
      ok.agrees,
      le-ltb s.last s.number ok.within,
      le-ltb a.limit (length s.content) ok.short,
      le-ltb s.number a.next ok.ahead,
      lt-leb a.window (s.number - a.next) ok.near,
      ok.fresh,
    ) refl

pub wanted_fits : (a : Assembly) (s : PlainSegment) → IsWanted a s.number → is_other a.last s.last ≡ false → s.number ≤ s.last → length s.content ≤ a.limit → answer_to a s ≡ Ok Accepted
wanted_fits a s wanted agrees within short = accepts a s (record {
  agrees = agrees;
  within = within;
  short = short;
  ahead = wanted.0;
  near = omega (arith, wanted.0, wanted.1.0);
  fresh = wanted.2;
})

-- the limit and the window stay
keeps_one : (a : Assembly) (s : PlainSegment) (answer : Result Taken SegmentFault) → ((after_answer answer a s).limit ≡ a.limit) × ((after_answer answer a s).window ≡ a.window)
keeps_one a s (Ok Accepted) = (refl, refl)
keeps_one a s (Ok Repeated) = (refl, refl)
keeps_one a s (Err why) = (refl, refl)

pub keeps : (first : Assembly) (received : List PlainSegment) → ((state_after first received).limit ≡ first.limit) × ((state_after first received).window ≡ first.window)
keeps first [] = (refl, refl)
keeps first (s ∷ earlier) =
    let before = keeps first earlier in
    let now = keeps_one (state_after first earlier) s (answer_to (state_after first earlier) s) in
    (now.0 ∙ before.0, now.1 ∙ before.1)

pub has_more : (answer : Result Taken SegmentFault) (first s : PlainSegment) (accepted : List PlainSegment) → Has accepted s → Has (if_accepted answer first accepted) s
has_more (Ok Accepted) first s accepted has = inr has
has_more (Ok Repeated) first s accepted has = has
has_more (Err why) first s accepted has = has

is_not_other : (known mine : ℕ) → known ≡ mine → not (eqb known mine) ≡ false
is_not_other known mine same = rw (eq-eqb known mine same) refl

-- a segment of the file at whose place nothing has been accepted fits
fits : (size : ℕ) (file : List ℕ) (accepted : List PlainSegment) (written : List ℕ) (a : Assembly) (r : PlainSegment) → (st : Stands accepted written a) → AreOf size file accepted
    → r.number ≤ last_piece size (length file) → r ≡ segment size file r.number → size ≤ a.limit → last_piece size (length file) < a.window → content_at st.all r.number ≡ None → IsFit a r
fits size file accepted written a r st of_file le same short near none =
    let last = last_piece size (length file) in
    let last_is : r.last ≡ last = ap (λ (s : PlainSegment). s.last) same in
    let ahead : a.next ≤ r.number = elim (cases_lt r.number a.next) [
      | inl lt ↦
          let within : r.number < length (in_order st.all) = omega (arith, lt, st.next) in
          absurd (none_some _ _ none (before_gap st.all r.number within ∙ slice_get-get_or (in_order st.all) r.number [] within))
      | inr at_least ↦ at_least
    ] in
    let agrees : (known : Option ℕ) → a.last ≡ known → is_other known r.last ≡ false = λ known is. elim known as (λ (k : Option ℕ). a.last ≡ k → is_other k r.last ≡ false) [
      | None ↦ λ e. refl
      | Some l ↦ λ e.
          let some = st.last l e in
          is_not_other l r.last (sym some.2 ∙ ap (λ (s : PlainSegment). s.last) (of_file some.0 some.1).1 ∙ sym last_is)
    ] is in
    record {
      agrees = agrees a.last refl;
      within = omega (arith, le, last_is);
      short = omega (arith, ap (λ (s : PlainSegment). length s.content) same, length-piece size r.number file, short);
      ahead = ahead;
      near = omega (arith, le, near);
      fresh = ap (λ (p : Places). content_at p (r.number - a.next)) st.held ∙ at_gap st.all r.number (r.number - a.next) (omega (arith, st.next, ahead)) ∙ none;
    }

-- when a segment of the file comes, it is accepted, or has been
latest : (size : ℕ) (file : List ℕ) (accepted : List PlainSegment) (written : List ℕ) (a : Assembly) (r : PlainSegment) → (st : Stands accepted written a) → AreOf size file accepted
    → r.number ≤ last_piece size (length file) → r ≡ segment size file r.number → size ≤ a.limit → last_piece size (length file) < a.window
    → (place : Option (List ℕ)) → content_at st.all r.number ≡ place → Has (if_accepted (answer_to a r) r accepted) r
latest size file accepted written a r st of_file le same short near (Some content) is =
    let told = st.told r.number content is in
    let one : told.0 ≡ r = (of_file told.0 told.1).1 ∙ ap (segment size file) told.2 ∙ sym same in
    has_more (answer_to a r) r r accepted (subst (Has accepted) one told.1)
latest size file accepted written a r st of_file le same short near None is =
    let answer = accepts a r (fits size file accepted written a r st of_file le same short near is) in
    subst (λ (t : Result Taken SegmentFault). Has (if_accepted t r accepted) r) (sym answer) (inl refl)

-- if only segments of the file come, and the window is long enough, each of them is accepted once
pub came_accepted : (stem : List Field) (limit window size : ℕ) (file : List ℕ) (received : List PlainSegment) (s : PlainSegment) → AreOf size file received → size ≤ limit → last_piece size (length file) < window
    → Has received s → Has (accepted_of (start stem limit window) received) s
came_accepted stem limit window size file [] s of_file short near has = has
came_accepted stem limit window size file (r ∷ earlier) s of_file short near (inr has) =
    let first = start stem limit window in
    has_more (answer_to (state_after first earlier) r) r s (accepted_of first earlier) (came_accepted stem limit window size file earlier s (λ t h. of_file t (inr h)) short near has)
came_accepted stem limit window size file (r ∷ earlier) s of_file short near (inl is) =
    let first = start stem limit window in
    let a = state_after first earlier in
    let kept = keeps first earlier in
    let mine = of_file r (inl refl) in
    subst (Has (accepted_of first (r ∷ earlier))) (sym is)
    (latest size file (accepted_of first earlier) (written_after first earlier) a r (stands stem limit window earlier) (λ t h. of_file t (inr (accepted_came first earlier t h))) mine.0 mine.1 (omega (arith, short, kept.0)) (omega (arith, near, kept.1)) _ refl)

-- ---- when it is finished

-- nothing after the last segment is written
not_beyond : (accepted : List PlainSegment) (written : List ℕ) (a : Assembly) (last : ℕ) → Stands accepted written a → a.last ≡ Some last → a.next ≤ last + 1
not_beyond accepted written a last st is =
    elim (cases_lt (last + 1) a.next) [
      | inl lt ↦
          let within : last + 1 < length (in_order st.all) = omega (arith, lt, st.next) in
          let told = st.told (last + 1) _ (before_gap st.all (last + 1) within ∙ slice_get-get_or (in_order st.all) (last + 1) [] within) in
          let seen = st.seen told.0 told.1 in
          let same : told.0.last ≡ last = same_some told.0.last last (sym seen.1 ∙ is) in
          absurd (omega (arith, seen.2, same, told.2))
      | inr le ↦ le
    ]

next_is_gap : (accepted : List PlainSegment) (written : List ℕ) (a : Assembly) → (st : Stands accepted written a) → content_at st.all a.next ≡ None
next_is_gap accepted written a st = sym (at_gap st.all a.next 0 (st.next ∙ sym (add-zero (length (in_order st.all))))) ∙ gap_first st.all

pub finishes : (size : ℕ) (file : List ℕ) (accepted : List PlainSegment) (written : List ℕ) (a : Assembly) → Stands accepted written a
    → ((number : ℕ) → number ≤ last_piece size (length file) → Has accepted (segment size file number)) → IsFinished a
finishes size file accepted written a st each =
    let last = last_piece size (length file) in
    let known = (st.seen (segment size file 0) (each 0 (omega arith))).1 in
    let most = not_beyond accepted written a last st known in
    let least : last + 1 ≤ a.next = elim (cases_lt a.next (last + 1)) [
      | inl lt ↦
          let seen = st.seen (segment size file a.next) (each a.next (omega (arith, lt))) in
          absurd (none_some _ _ (next_is_gap accepted written a st) seen.0)
      | inr le ↦ le
    ] in
    (last, known, omega (arith, most, least))

pub all_give_the_file : (stem : List Field) (limit window size : ℕ) (file : List ℕ) (received : List PlainSegment) → 1 ≤ size → AreOf size file received → size ≤ limit → last_piece size (length file) < window
    → ((number : ℕ) → number ≤ last_piece size (length file) → Has received (segment size file number))
    → IsFinished (state_after (start stem limit window) received) × (written_after (start stem limit window) received ≡ file)
all_give_the_file stem limit window size file received pos of_file short near each =
    let first = start stem limit window in
    let st = stands stem limit window received in
    let finished = finishes size file _ _ _ st (λ number le. came_accepted stem limit window size file received (segment size file number) of_file short near (each number le)) in
    (finished, whole size file _ _ _ pos (λ s has. of_file s (accepted_came first received s has)) st finished)

-- ---- segments that have not come

pub waits : (stem : List Field) (limit window last number : ℕ) (received : List PlainSegment) → number ≤ last → ((s : PlainSegment) → Has received s → s.last ≡ last) → ((s : PlainSegment) → Has received s → s.number ≢ number)
    → IsFinished (state_after (start stem limit window) received) → ⊥
waits stem limit window last number received le agree missing finished =
    let first = start stem limit window in
    let st = stands stem limit window received in
    let some = st.last finished.0 finished.1 in
    let same : finished.0 ≡ last = sym some.2 ∙ agree some.0 (accepted_came first received some.0 some.1) in
    let within : number < length (in_order st.all) = omega (arith, st.next, finished.2, same, le) in
    let told = st.told number _ (before_gap st.all number within ∙ slice_get-get_or (in_order st.all) number [] within) in
    missing told.0 (accepted_came first received told.0 told.1) told.2

pub next_wanted : (stem : List Field) (limit window : ℕ) (received : List PlainSegment) → 1 ≤ window → (IsFinished (state_after (start stem limit window) received) → ⊥)
    → IsWanted (state_after (start stem limit window) received) (state_after (start stem limit window) received).next
next_wanted stem limit window received some unfinished =
    let first = start stem limit window in
    let a = state_after first received in
    let st = stands stem limit window received in
    let kept = keeps first received in
    let within : (known : Option ℕ) → a.last ≡ known → IfSome known (λ last. a.next ≤ last) = λ known is. elim known as (λ (k : Option ℕ). a.last ≡ k → IfSome k (λ last. a.next ≤ last)) [
      | None ↦ λ e. tt
      | Some last ↦ λ e.
          let most = not_beyond _ _ a last st e in
          elim (cases_eq a.next (last + 1)) [
            | inl same ↦ absurd (unfinished (last, e, same))
            | inr apart ↦ omega (arith, most, apart)
          ]
    ] is in
    let zero_on : a.next - a.next ≡ 0 = omega arith in (
      omega arith,
      (omega (arith, some, kept.1), within a.last refl),
      ap (content_at a.held) zero_on ∙ ap (λ (p : Places). content_at p 0) st.held ∙ gap_first st.all,
    )
