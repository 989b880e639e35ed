-- Steps of ports with a source of new rules and keys.
use Rattle.std.proofs.Common.{◌≡◌, ℕ, List, [], ◌∷◌, ◌++◌, refl, sym, subst}
use Rattle.std.specs.Prelude.{Bool, true, false, Option, Some, None}
use Rattle.forwarder.specs.declared.event.Event.TheVariants as code
use Rattle.forwarder.specs.Event.{PlainEvent, moment, moment_of}
use Rattle.node_ports.specs.Laws.{restarted_goes_on}
use Rattle.node_ports.specs.Ports.{Arrival, arrived, cut_to}
use Rattle.node_ports.specs.Renewal.{RenewalValue}
use Rattle.node_ports.specs.Restarted.{DoesRestarted, AreDoneRestarted}
use Rattle.node_ports.specs.Step.{PortStep, Got, Ended, FailedNext, Wrote, FailedWrite, Gave, FailedSend, line_steps}
use Rattle.node_ports.proofs.Wrapped.{IsOther}
use Rattle.ndn_daemon.specs.Watched.{IsRenewed, AreDoneWatched}
use Rattle.ndn_daemon.specs.WatchedLaws.{watched_goes_on}

-- an arrival has the moment of its event
pub dated : (arrival : Arrival) (buffer : List ℕ) → moment (arrived arrival buffer) ≡ moment_of arrival
dated (code.Packet face now len) buffer = refl
dated (code.FaceUp face scope now) buffer = refl
dated (code.FaceDown face now) buffer = refl
dated (code.Tick now) buffer = refl
dated (code.NewRules renewal now) buffer = refl

module _ {P S : Type 0} (does : P → List PortStep → P → Type 0) (renews : S → List RenewalValue → S → Type 0) where
  -- a step that is no arrival is done by the underlying ports
  pub watched_other : (p q : P) (s : S) (held : Option PlainEvent) (step : PortStep) → does q [] q → renews s [] s → IsOther step → does p (step ∷ []) q
      → AreDoneWatched does renews p s held (step ∷ []) q s held
  watched_other p q s (Some event) (Got room given) rests quiet is h = absurd is
  watched_other p q s (Some event) Ended rests quiet is h = absurd is
  watched_other p q s (Some event) FailedNext rests quiet is h = absurd is
  watched_other p q s (Some event) (Wrote line) rests quiet is h = (q, s, Some event, (h, quiet, refl), (rests, quiet, refl))
  watched_other p q s (Some event) (FailedWrite front) rests quiet is h = (q, s, Some event, (h, quiet, refl), (rests, quiet, refl))
  watched_other p q s (Some event) (Gave send) rests quiet is h = (q, s, Some event, (h, quiet, refl), (rests, quiet, refl))
  watched_other p q s (Some event) (FailedSend send) rests quiet is h = (q, s, Some event, (h, quiet, refl), (rests, quiet, refl))
  watched_other p q s None (Got room given) rests quiet is h = absurd is
  watched_other p q s None Ended rests quiet is h = absurd is
  watched_other p q s None FailedNext rests quiet is h = absurd is
  watched_other p q s None (Wrote line) rests quiet is h = (q, s, None, (h, quiet, refl), (rests, quiet, refl))
  watched_other p q s None (FailedWrite front) rests quiet is h = (q, s, None, (h, quiet, refl), (rests, quiet, refl))
  watched_other p q s None (Gave send) rests quiet is h = (q, s, None, (h, quiet, refl), (rests, quiet, refl))
  watched_other p q s None (FailedSend send) rests quiet is h = (q, s, None, (h, quiet, refl), (rests, quiet, refl))

  pub watched_line : (p q : P) (s : S) (held : Option PlainEvent) (chosen : Bool) (line : List ℕ) → does q [] q → renews s [] s → does p (line_steps chosen line) q
      → AreDoneWatched does renews p s held (line_steps chosen line) q s held
  watched_line p q s held true line rests quiet h = watched_other p q s held (Wrote line) rests quiet tt h
  watched_line p q s held false line rests quiet h = (h, quiet, refl)

  -- the event that was kept arrives
  pub watched_held : (p : P) (s : S) (held holds : Option PlainEvent) (event : PlainEvent) (room : ℕ) (given : PlainEvent) → does p [] p → renews s [] s → held ≡ Some event
      → given ≡ cut_to room event → holds ≡ None → AreDoneWatched does renews p s held (Got room given ∷ []) p s holds
  watched_held p s held holds event room given rests quiet was comes is =
      subst (λ (h : Option PlainEvent). AreDoneWatched does renews p s h (Got room given ∷ []) p s holds) (sym was)
      (subst (λ (h : Option PlainEvent). AreDoneWatched does renews p s (Some event) (Got room given ∷ []) p s h) (sym is) (p, s, None, (rests, quiet, comes, refl), (rests, quiet, refl)))

  -- what is given for an arrival of the underlying ports
  pub watched_given : (p q : P) (s t : S) (held holds : Option PlainEvent) (room : ℕ) (came given : PlainEvent) → does q [] q → renews t [] t → held ≡ None → does p (Got room came ∷ []) q
      → IsRenewed renews s came given t holds → AreDoneWatched does renews p s held (Got room given ∷ []) q t holds
  watched_given p q s t held holds room came given rests quiet was h renewed =
      subst (λ (o : Option PlainEvent). AreDoneWatched does renews p s o (Got room given ∷ []) q t holds) (sym was) (q, t, holds, (came, h, renewed), (rests, quiet, refl))

  -- the underlying ports have no more arrivals
  pub watched_ended : (p q : P) (s : S) (held holds : Option PlainEvent) → does q [] q → renews s [] s → held ≡ None → holds ≡ None → does p (Ended ∷ []) q
      → AreDoneWatched does renews p s held (Ended ∷ []) q s holds
  watched_ended p q s held holds rests quiet was is h =
      subst (λ (o : Option PlainEvent). AreDoneWatched does renews p s o (Ended ∷ []) q s holds) (sym was)
      (subst (λ (o : Option PlainEvent). AreDoneWatched does renews p s None (Ended ∷ []) q s o) (sym is) (q, s, None, (h, quiet, refl), (rests, quiet, refl)))

  -- the call of the underlying ports failed
  pub watched_failed : (p q : P) (s : S) (held holds : Option PlainEvent) → does q [] q → renews s [] s → held ≡ None → holds ≡ None → does p (FailedNext ∷ []) q
      → AreDoneWatched does renews p s held (FailedNext ∷ []) q s holds
  watched_failed p q s held holds rests quiet was is h =
      subst (λ (o : Option PlainEvent). AreDoneWatched does renews p s o (FailedNext ∷ []) q s holds) (sym was)
      (subst (λ (o : Option PlainEvent). AreDoneWatched does renews p s None (FailedNext ∷ []) q s o) (sym is) (q, s, None, (h, quiet, refl), (rests, quiet, refl)))

-- ---- steps of ports that are seen in another way

module _ {A B : Type 0} (does : B → List PortStep → B → Type 0) (shown : A → B) where
  abbrev pub through : A → List PortStep → A → Type 0
  through p steps q = does (shown p) steps (shown q)

  step_through : (p q : A) (own left : List PlainEvent) (step : PortStep) → DoesRestarted through p own step q left → DoesRestarted does (shown p) own step (shown q) left
  step_through p q [] left step h = h
  step_through p q (event ∷ own) left (Got room given) h = h
  step_through p q (event ∷ own) left Ended h = h
  step_through p q (event ∷ own) left FailedNext h = h
  step_through p q (event ∷ own) left (Wrote line) h = h
  step_through p q (event ∷ own) left (FailedWrite front) h = h
  step_through p q (event ∷ own) left (Gave send) h = h
  step_through p q (event ∷ own) left (FailedSend send) h = h

  pub steps_through : (p q : A) (own left : List PlainEvent) (steps : List PortStep) → AreDoneRestarted through p own steps q left → AreDoneRestarted does (shown p) own steps (shown q) left
  steps_through p q own left [] h = h
  steps_through p q own left (step ∷ steps) h = (shown h.0, h.1, step_through p h.0 own h.1 step h.2, steps_through h.0 q h.1 left steps h.3)

-- The events of a restart arrive first, and then what ports with a source give. The source made
-- nothing before that.
module _ {P S : Type 0} (does : P → List PortStep → P → Type 0) (renews : S → List RenewalValue → S → Type 0) (on : (p q r : P) (a b : List PortStep) → does p a q → does q b r → does p (a ++ b) r)
    (more : (s t u : S) (a b : List RenewalValue) → renews s a t → renews t b u → renews s (a ++ b) u) where
  abbrev pub watched : P × S × Option PlainEvent → List PortStep → P × S × Option PlainEvent → Type 0
  watched a steps b = AreDoneWatched does renews a.0 a.1 a.2 steps b.0 b.1 b.2

  pub restart_goes : {W : Type 0} (shown : W → P × S × Option PlainEvent) (p : P) (s t : S) (w v : W) (own waits : List PlainEvent) (steps : List PortStep) → does p [] p → renews s [] t → shown w ≡ (p, t, None)
      → AreDoneRestarted (through watched shown) w own steps v waits → AreDoneRestarted watched (p, s, None) own steps (shown v) waits
  restart_goes shown p s t w v own waits steps rests quiet is h =
      restarted_goes_on watched (λ a b c x y. watched_goes_on does renews on more a.0 b.0 c.0 a.1 b.1 c.1 a.2 b.2 c.2 x y) (p, s, None) (p, t, None) (shown v) own own waits [] steps ((rests, quiet, refl), refl)
      (subst (λ (a : P × S × Option PlainEvent). AreDoneRestarted watched a own steps (shown v) waits) is (steps_through watched shown w v own waits steps h))
