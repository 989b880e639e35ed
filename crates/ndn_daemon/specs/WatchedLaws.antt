-- Proofs of the laws of `Ports` for ports with a source of new rules and keys.
use Rattle.std.specs.Prelude.{◌≡◌, ℕ, Bool, List, [], ◌∷◌, ◌++◌, Option, None, Some}
use Rattle.std.proofs.Common.{◌∙◌, subst, inl, inr}
use Rattle.forwarder.specs.Event.{PlainEvent}
use Rattle.node_ports.specs.Laws.{counted_after}
use Rattle.node_ports.specs.Renewal.{RenewalValue}
use Rattle.node_ports.specs.Step.{PortStep, Got, Ended, FailedNext, Wrote, FailedWrite, Gave, FailedSend, count_after, failures_in}
use Rattle.ndn_daemon.specs.Watched.{IsRenewed, DoesWatched, AreDoneWatched}

module _ {P S : Type 0} (does : P → List PortStep → P → Type 0) (renews : S → List RenewalValue → S → Type 0) where
  module _ (on : (p q r : P) (a b : List PortStep) → does p a q → does q b r → does p (a ++ b) r) (more : (s t u : S) (a b : List RenewalValue) → renews s a t → renews t b u → renews s (a ++ b) u) where
    same_later : (p q r : P) (s t u : S) (held holds : Option PlainEvent) (step : PortStep) → does p [] q → renews s [] t → does q (step ∷ []) r × renews t [] u × (holds ≡ held)
        → does p (step ∷ []) r × renews s [] u × (holds ≡ held)
    same_later p q r s t u held holds step h k one = (on p q r [] (step ∷ []) h one.0, more s t u [] [] k one.1, one.2)

    renewed_later : (s t u : S) (came given : PlainEvent) (holds : Option PlainEvent) → renews s [] t → IsRenewed renews t came given u holds → IsRenewed renews s came given u holds
    renewed_later s t u came given holds k (inl h) = inl (more s t u [] [] k h.0, h.1, h.2)
    renewed_later s t u came given holds k (inr h) = inr (h.0, more s t u [] (h.0 ∷ []) k h.1, h.2, h.3)

    step_later : (p q r : P) (s t u : S) (held holds : Option PlainEvent) (step : PortStep) → does p [] q → renews s [] t → DoesWatched does renews q t held step r u holds
        → DoesWatched does renews p s held step r u holds
    step_later p q r s t u (Some event) holds (Got room given) h k one = (on p q r [] [] h one.0, more s t u [] [] k one.1, one.2, one.3)
    step_later p q r s t u (Some event) holds Ended h k one = absurd one
    step_later p q r s t u (Some event) holds FailedNext h k one = absurd one
    step_later p q r s t u (Some event) holds (Wrote line) h k one = same_later p q r s t u (Some event) holds (Wrote line) h k one
    step_later p q r s t u (Some event) holds (FailedWrite front) h k one = same_later p q r s t u (Some event) holds (FailedWrite front) h k one
    step_later p q r s t u (Some event) holds (Gave send) h k one = same_later p q r s t u (Some event) holds (Gave send) h k one
    step_later p q r s t u (Some event) holds (FailedSend send) h k one = same_later p q r s t u (Some event) holds (FailedSend send) h k one
    step_later p q r s t u None holds (Got room given) h k one =
        (one.0, on p q r [] (Got room one.0 ∷ []) h one.1, renewed_later s t u one.0 given holds k one.2)
    step_later p q r s t u None holds Ended h k one = same_later p q r s t u None holds Ended h k one
    step_later p q r s t u None holds FailedNext h k one = same_later p q r s t u None holds FailedNext h k one
    step_later p q r s t u None holds (Wrote line) h k one = same_later p q r s t u None holds (Wrote line) h k one
    step_later p q r s t u None holds (FailedWrite front) h k one = same_later p q r s t u None holds (FailedWrite front) h k one
    step_later p q r s t u None holds (Gave send) h k one = same_later p q r s t u None holds (Gave send) h k one
    step_later p q r s t u None holds (FailedSend send) h k one = same_later p q r s t u None holds (FailedSend send) h k one

    steps_later : (p q r : P) (s t u : S) (held holds : Option PlainEvent) (steps : List PortStep) → does p [] q → renews s [] t → AreDoneWatched does renews q t held steps r u holds
        → AreDoneWatched does renews p s held steps r u holds
    steps_later p q r s t u held holds [] h k all = (on p q r [] [] h all.0, more s t u [] [] k all.1, all.2)
    steps_later p q r s t u held holds (step ∷ steps) h k all = (all.0, all.1, all.2, step_later p q all.0 s t all.1 held all.2 step h k all.3, all.4)

    pub watched_goes_on : (p q r : P) (s t u : S) (e f g : Option PlainEvent) (a b : List PortStep) → AreDoneWatched does renews p s e a q t f → AreDoneWatched does renews q t f b r u g
        → AreDoneWatched does renews p s e (a ++ b) r u g
    watched_goes_on p q r s t u e f g [] b h k =
        steps_later p q r s t u e g b h.0 h.1 (subst (λ (held : Option PlainEvent). AreDoneWatched does renews q t held b r u g) h.2 k)
    watched_goes_on p q r s t u e f g (step ∷ a) b h k = (h.0, h.1, h.2, h.3, watched_goes_on h.0 q r h.1 t u h.2 f g a b h.4 k)

  -- what holds between the underlying ports before and after each of their steps holds for ports
  -- with a source too
  module _ (holds : P → List PortStep → P → Type 0) (one : (p q : P) (steps : List PortStep) → does p steps q → holds p steps q)
      (quiet : (p q : P) (room : ℕ) (event : PlainEvent) → holds p [] q → holds p (Got room event ∷ []) q)
      (other : (p q : P) (room : ℕ) (e f : PlainEvent) → holds p (Got room e ∷ []) q → holds p (Got room f ∷ []) q) where
    step_alike : (p q : P) (s t : S) (held left : Option PlainEvent) (step : PortStep) → DoesWatched does renews p s held step q t left → holds p (step ∷ []) q
    step_alike p q s t (Some event) left (Got room given) h = quiet p q room given (one p q [] h.0)
    step_alike p q s t (Some event) left Ended h = absurd h
    step_alike p q s t (Some event) left FailedNext h = absurd h
    step_alike p q s t (Some event) left (Wrote line) h = one p q (Wrote line ∷ []) h.0
    step_alike p q s t (Some event) left (FailedWrite front) h = one p q (FailedWrite front ∷ []) h.0
    step_alike p q s t (Some event) left (Gave send) h = one p q (Gave send ∷ []) h.0
    step_alike p q s t (Some event) left (FailedSend send) h = one p q (FailedSend send ∷ []) h.0
    step_alike p q s t None left (Got room given) h = other p q room h.0 given (one p q (Got room h.0 ∷ []) h.1)
    step_alike p q s t None left Ended h = one p q (Ended ∷ []) h.0
    step_alike p q s t None left FailedNext h = one p q (FailedNext ∷ []) h.0
    step_alike p q s t None left (Wrote line) h = one p q (Wrote line ∷ []) h.0
    step_alike p q s t None left (FailedWrite front) h = one p q (FailedWrite front ∷ []) h.0
    step_alike p q s t None left (Gave send) h = one p q (Gave send ∷ []) h.0
    step_alike p q s t None left (FailedSend send) h = one p q (FailedSend send ∷ []) h.0

    steps_alike : ((p q r : P) (a b : List PortStep) → holds p a q → holds q b r → holds p (a ++ b) r) → (p q : P) (s t : S) (held left : Option PlainEvent) (steps : List PortStep)
        → AreDoneWatched does renews p s held steps q t left → holds p steps q
    steps_alike then p q s t held left [] h = one p q [] h.0
    steps_alike then p q s t held left (step ∷ steps) h =
        then p h.0 q (step ∷ []) steps (step_alike p h.0 s h.1 held h.2 step h.3) (steps_alike then h.0 q h.1 t h.2 left steps h.4)

  pub watched_counts : (failures : P → ℕ) → ((p q : P) (steps : List PortStep) → does p steps q → failures q ≡ count_after (failures p) (failures_in steps)) → (p q : P) (s t : S) (held left : Option PlainEvent)
      (steps : List PortStep) → AreDoneWatched does renews p s held steps q t left → failures q ≡ count_after (failures p) (failures_in steps)
  watched_counts failures counts =
      steps_alike (λ p steps q. failures q ≡ count_after (failures p) (failures_in steps)) counts (λ p q room event h. h) (λ p q room e f h. h)
      (λ p q r a b. counted_after (failures p) (failures q) (failures r) a b)

  pub watched_stays : (has : P → Bool) → ((p q : P) (steps : List PortStep) → does p steps q → has q ≡ has p) → (p q : P) (s t : S) (held left : Option PlainEvent) (steps : List PortStep)
      → AreDoneWatched does renews p s held steps q t left → has q ≡ has p
  watched_stays has stays = steps_alike (λ p steps q. has q ≡ has p) stays (λ p q room event h. h) (λ p q room e f h. h) (λ p q r a b h k. k ∙ h)
