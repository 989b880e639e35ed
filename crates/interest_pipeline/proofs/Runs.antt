-- What is true after any calls.
use Rattle.std.proofs.Common.{◌≡◌, ◌≤◌, ◌<◌, ◌+◌, ◌⊎◌, ◌&&◌, ◌||◌, cond, if◌then◌else◌, ℕ, Bool, true, false, List, [], ◌∷◌, Some, None, refl, sym, ap, ◌∙◌, arith, inl, inr}
use Rattle.std.specs.Prelude.{Option, option_map, nat_lt, length}
use Rattle.std.specs.List.{list_any}
use Rattle.interest_pipeline.specs.declared.place.Place.{Place}
use Rattle.interest_pipeline.specs.declared.place.Place.TheVariants.{Answered, InFlight, Lost}
use Rattle.interest_pipeline.specs.Places.{slows}
use Rattle.interest_pipeline.specs.Flight.{is_wanted, place_of}
use Rattle.interest_pipeline.specs.Pipeline.{PipelineState, answering, choice, losing, number_to_send, sent, start, with_expired}
use Rattle.interest_pipeline.specs.Runs.{Call, Next, Answer, Loss, Expire, Last, IsInFlight, IsLost, after, is_answer, sendings_of, sends, state_after, was_answered}
use Rattle.interest_pipeline.proofs.Picking.{chosen, picked}
use Rattle.interest_pipeline.proofs.Placing.{at, at-above, at-below, place_of-index, place_of-new}
use Rattle.interest_pipeline.proofs.Following.{IsKnown, known_count, moved, new_is_wanted, next_known}
use Rattle.interest_pipeline.proofs.Steps.{answer_known, expire_known, last_known, loss_known}

-- the number of retries stays
sent_retries : (o : Option ℕ) (s : PipelineState) (now : ℕ) → (sent o s now).retries ≡ s.retries
sent_retries None s now = refl
sent_retries (Some i) s now = refl

answering_retries : (p : Option Place) (s : PipelineState) (m now : ℕ) → (answering p s m now).retries ≡ s.retries
answering_retries None s m now = refl
answering_retries (Some Answered) s m now = refl
answering_retries (Some (InFlight x)) s m now = refl
answering_retries (Some (Lost x)) s m now = refl

pub losing_retries : (p : Option Place) (s : PipelineState) (m : ℕ) → (losing p s m).retries ≡ s.retries
losing_retries None s m = refl
losing_retries (Some Answered) s m = refl
losing_retries (Some (InFlight x)) s m = elim x.spared as (λ b. (losing (Some (InFlight (record x { spared = b }))) s m).retries ≡ s.retries) [ true ↦ refl | false ↦ refl ]
losing_retries (Some (Lost x)) s m = refl

expire_retries : (b : Bool) (s t : PipelineState) → s.retries ≡ t.retries → (cond b s t).retries ≡ t.retries
expire_retries true s t e = e
expire_retries false s t e = refl

after_retries : (s : PipelineState) (call : Call) → (after s call).retries ≡ s.retries
after_retries s (Next now) = sent_retries (choice s) s now
after_retries s (Answer m now) = answering_retries (place_of s.flight m) s m now
after_retries s (Loss m) = losing_retries (place_of s.flight m) s m
after_retries s (Expire now) = expire_retries (list_any (slows now) s.flight.places) _ (with_expired s now) refl
after_retries s (Last l) = refl

pub run_retries : (limit retries : ℕ) (calls : List Call) → (state_after (start limit retries) calls).retries ≡ retries
run_retries limit retries [] = refl
run_retries limit retries (call ∷ earlier) =
    after_retries (state_after (start limit retries) earlier) call ∙ run_retries limit retries earlier

-- what is true of a segment after a call, if it was true before
step : (r : ℕ) (s : PipelineState) (call : Call) → s.retries ≡ r → (n k : ℕ) (a : Bool)
    → IsKnown r (is_wanted s.flight.last n) (place_of s.flight n) k a
    → let t = after s call in
    IsKnown r (is_wanted t.flight.last n) (place_of t.flight n)
    (if sends s call n then k + 1 else k) (is_answer call n && nat_lt 0 k || a)
step r s (Next now) retries n k a known = next_known r s now (choice s) refl retries n k a known
step r s (Answer m now) retries n k a known = answer_known r s m now (place_of s.flight m) refl n k a known
step r s (Loss m) retries n k a known = loss_known r s m (place_of s.flight m) refl n k a known
step r s (Expire now) retries n k a known = expire_known r s now n k a known
step r s (Last l) retries n k a known = last_known r s.flight s.flight.last refl l n k a known

pub known : (limit retries : ℕ) (calls : List Call) (n : ℕ) → let s = state_after (start limit retries) calls in
    IsKnown retries (is_wanted s.flight.last n) (place_of s.flight n)
    (sendings_of (start limit retries) calls n) (was_answered (start limit retries) calls n)
unfolding at
known limit retries [] n =
    moved retries true _ None 0 0 false false (at-above 0 [] n (omega arith)) refl refl (omega arith, λ wanted. (refl, refl))
known limit retries (call ∷ earlier) n =
    step retries (state_after (start limit retries) earlier) call (run_retries limit retries earlier) n
    (sendings_of (start limit retries) earlier n) (was_answered (start limit retries) earlier n)
    (known limit retries earlier n)

-- ---- the laws

pub sent_count : (limit retries n : ℕ) (calls : List Call) → sendings_of (start limit retries) calls n ≤ retries + 1
sent_count limit retries n calls =
    let s = state_after (start limit retries) calls in
    known_count retries (is_wanted s.flight.last n) (place_of s.flight n) _ (was_answered (start limit retries) calls n) (known limit retries calls n)

-- the segment that is sent is wanted, and was not answered
sendable : (r : ℕ) (s : PipelineState) (o : Option ℕ) → choice s ≡ o → (n k : ℕ) (a : Bool) → option_map (λ index. s.flight.base + index) o ≡ Some n
    → IsKnown r (is_wanted s.flight.last n) (place_of s.flight n) k a
    → (is_wanted s.flight.last n ≡ true) × (a ≡ false)
sendable r s None e n k a is known = absurd cc
sendable r s (Some i) e n k a is known =
    let same : s.flight.base + i ≡ n = cc in
    let c = chosen s i e in
    elim (picked s.flight i c.pick) [
      | (inl (x, within, lost)) ↦
          let here = sym lost ∙ sym (place_of-index s.flight i) ∙ ap (place_of s.flight) same in
          let old = moved r (is_wanted s.flight.last n) (Some (Lost x)) (place_of s.flight n) k k a a here refl refl known in
          (old.is_wanted, old.unanswered)
      | (inr new) ↦
          let number : s.flight.base + length s.flight.places ≡ n = ap (λ j. s.flight.base + j) (sym new.0) ∙ same in
          let here = sym (place_of-new s.flight) ∙ ap (place_of s.flight) number in
          let old = moved r (is_wanted s.flight.last n) None (place_of s.flight n) k k a a here refl refl known in
          let wanted : is_wanted s.flight.last n ≡ true = ap (is_wanted s.flight.last) (sym number) ∙ new_is_wanted s.flight new.1 in
          (wanted, (old.1 wanted).1)
    ]

pub next_is_sendable : (limit retries n : ℕ) (calls : List Call) → let s = state_after (start limit retries) calls in
    number_to_send s ≡ Some n → (is_wanted s.flight.last n ≡ true) × (was_answered (start limit retries) calls n ≡ false)
next_is_sendable limit retries n calls is =
    let s = state_after (start limit retries) calls in
    sendable retries s (choice s) refl n (sendings_of (start limit retries) calls n) (was_answered (start limit retries) calls n) is (known limit retries calls n)

kept_place : (r : ℕ) (s : PipelineState) (n k : ℕ) (w a : Bool) (p : Option Place) → place_of s.flight n ≡ p → 1 ≤ k → w ≡ true
    → IsKnown r w p k a → (a ≡ true) ⊎ (IsInFlight s n ⊎ IsLost s n)
kept_place r s n k w a None at_n some wanted known = absurd (let none = (known.1 wanted).0 in omega arith)
kept_place r s n k w a (Some Answered) at_n some wanted known = inl known.1
kept_place r s n k w a (Some (InFlight x)) at_n some wanted known = inr (inl (x, at_n))
kept_place r s n k w a (Some (Lost x)) at_n some wanted known = inr (inr (x, at_n))

pub kept : (limit retries n : ℕ) (calls : List Call) → let s = state_after (start limit retries) calls in
    1 ≤ sendings_of (start limit retries) calls n → is_wanted s.flight.last n ≡ true
    → (was_answered (start limit retries) calls n ≡ true) ⊎ (IsInFlight s n ⊎ IsLost s n)
kept limit retries n calls some wanted =
    let s = state_after (start limit retries) calls in
    kept_place retries s n (sendings_of (start limit retries) calls n) (is_wanted s.flight.last n) (was_answered (start limit retries) calls n) (place_of s.flight n) refl some wanted (known limit retries calls n)

pub done_answered : (limit retries n : ℕ) (calls : List Call) → n < (state_after (start limit retries) calls).flight.base
    → was_answered (start limit retries) calls n ≡ true
unfolding at
done_answered limit retries n calls below =
    let s = state_after (start limit retries) calls in
    let here : Some Answered ≡ place_of s.flight n = sym (at-below s.flight.base s.flight.places n below) in
    (moved retries (is_wanted s.flight.last n) (Some Answered) (place_of s.flight n) _ (sendings_of (start limit retries) calls n) _ (was_answered (start limit retries) calls n) here refl refl (known limit retries calls n)).1
