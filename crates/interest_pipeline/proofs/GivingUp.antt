-- When a segment is given up, and which answers give samples.
use Rattle.std.proofs.Common.{◌≡◌, ◌≢◌, ◌+◌, ℕ, Bool, true, false, List, get_or, Some, None, refl, sym, ap, ◌∙◌, arith}
use Rattle.std.specs.Prelude.{Option, option_map, position}
use Rattle.std.proofs.lemmas.Bool.{eqb-true, ne_eqb}
use Rattle.std.proofs.lemmas.List.Quantifiers.{position-Some}
use Rattle.std.proofs.lemmas.Option.{slice_get-get_or}
use Rattle.interest_pipeline.specs.declared.place.Sending.{Sending}
use Rattle.interest_pipeline.specs.declared.place.Place.{Place}
use Rattle.interest_pipeline.specs.declared.place.Place.TheVariants.{Answered, InFlight, Lost}
use Rattle.interest_pipeline.specs.Places.{is_spent}
use Rattle.interest_pipeline.specs.Flight.{FlightState, given_up, is_wanted, place_of}
use Rattle.interest_pipeline.specs.Pipeline.{PipelineState, answering, start}
use Rattle.interest_pipeline.specs.Runs.{Call, Answer, after, sendings_of, state_after, was_answered}
use Rattle.interest_pipeline.proofs.Placing.{place_of-index}
use Rattle.interest_pipeline.proofs.Following.{IsKnown, moved}
use Rattle.interest_pipeline.proofs.Runs.{known, run_retries}

-- ---- the segment that is given up

spent_is : (p : Place) → is_spent p ≡ true → (x : Sending) × (p ≡ Lost x) × (x.left ≡ 0)
spent_is Answered e = absurd cc
spent_is (InFlight x) e = absurd cc
spent_is (Lost x) e = (x, refl, eqb-true x.left 0 e)

-- a lost segment that may not be sent again
spent_at : (f : FlightState) (n : ℕ) → given_up f ≡ Some n → (x : Sending) × (place_of f n ≡ Some (Lost x)) × (x.left ≡ 0)
spent_at f n e = by (position is_spent f.places) refl e
  where
    by : (o : Option ℕ) → position is_spent f.places ≡ o → option_map (λ index. f.base + index) o ≡ Some n
        → (x : Sending) × (place_of f n ≡ Some (Lost x)) × (x.left ≡ 0)
    by None at_i is = absurd cc
    by (Some i) at_i is =
        let same : f.base + i ≡ n = cc in
        let (within, spent, earlier) = position-Some is_spent f.places i Answered at_i in
        let (x, lost, none) = spent_is (get_or f.places i Answered) spent in
        (x, ap (place_of f) (sym same) ∙ place_of-index f i ∙ slice_get-get_or f.places i Answered within ∙ ap Some lost, none)

pub given_up_sent : (limit retries n : ℕ) (calls : List Call) → let s = state_after (start limit retries) calls in
    given_up s.flight ≡ Some n
    → (sendings_of (start limit retries) calls n ≡ retries + 1) × (was_answered (start limit retries) calls n ≡ false)
    × (is_wanted s.flight.last n ≡ true)
given_up_sent limit retries n calls e =
    let s = state_after (start limit retries) calls in
    let (x, here, none) = spent_at s.flight n e in
    let k = sendings_of (start limit retries) calls n in
    let a = was_answered (start limit retries) calls n in
    let h = moved retries (is_wanted s.flight.last n) (Some (Lost x)) (place_of s.flight n) k k a a (sym here) refl refl (known limit retries calls n) in
    (omega (arith, h.total, none), h.unanswered, h.is_wanted)

-- ---- samples

-- an answer to a segment that was not sent exactly once
no_sample : (r : ℕ) (s : PipelineState) (n now : ℕ) (w : Bool) (k : ℕ) (a : Bool) (p : Option Place) → s.retries ≡ r → (k ≡ 1 → ⊥)
    → IsKnown r w p k a → (answering p s n now).rtt ≡ s.rtt
no_sample r s n now w k a None retries not_once known = refl
no_sample r s n now w k a (Some Answered) retries not_once known = refl
no_sample r s n now w k a (Some (InFlight x)) retries not_once known =
    let again : x.left ≡ s.retries → ⊥ = λ same. not_once (omega (arith, known.total)) in
    rw (ne_eqb x.left s.retries again) refl
no_sample r s n now w k a (Some (Lost x)) retries not_once known =
    let again : x.left ≡ s.retries → ⊥ = λ same. not_once (omega (arith, known.total)) in
    rw (ne_eqb x.left s.retries again) refl

pub no_sample_after : (limit retries n now : ℕ) (calls : List Call) → sendings_of (start limit retries) calls n ≢ 1
    → let s = state_after (start limit retries) calls in (after s (Answer n now)).rtt ≡ s.rtt
no_sample_after limit retries n now calls not_once =
    let s = state_after (start limit retries) calls in
    no_sample retries s n now (is_wanted s.flight.last n) (sendings_of (start limit retries) calls n)
    (was_answered (start limit retries) calls n) (place_of s.flight n) (run_retries limit retries calls) not_once (known limit retries calls n)
