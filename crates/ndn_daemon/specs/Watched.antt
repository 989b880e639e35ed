-- Ports with a source of new rules and keys.
use Rattle.std.specs.Prelude.{◌≡◌, ◌⊎◌, List, [], ◌∷◌, Option, None, Some}
use Rattle.forwarder.specs.Event.{PlainEvent, NewRules, moment}
use Rattle.node_ports.specs.Ports.{cut_to}
use Rattle.node_ports.specs.Renewal.{RenewalValue}
use Rattle.node_ports.specs.Step.{PortStep, Got, Ended, FailedNext}
use Rattle.node_ports.specs.declared.ports.TheConstants.{FRAME_ROOM}

-- What is given when `came` has arrived. If the source made nothing, that is the arrival itself.
-- Otherwise it is the new rules and keys of the source, at the time of the arrival, which is kept
-- for the next turn, a packet with at most its first 9,001 octets.
abbrev pub IsRenewed : {S : Type 0} (renews : S → List RenewalValue → S → Type 0) → S → PlainEvent
    → PlainEvent → S → Option PlainEvent → Type 0
IsRenewed renews s came given t holds =
    (renews s [] t × (given ≡ came) × (holds ≡ None))
    ⊎ ((made : RenewalValue) × renews s (made ∷ []) t
    × (given ≡ NewRules made.rules made.keys (moment came))
    × (holds ≡ Some (cut_to FRAME_ROOM came)))

-- One step. An event may be kept for the next turn: `held` before the step, and `holds` after it.
-- An event that is kept arrives next, and the underlying ports do nothing. If none is kept, an
-- arrival is what is given for the arrival of the underlying ports (`IsRenewed`). Every other step
-- is exactly the step of the underlying ports.
abbrev pub DoesWatched : {P S : Type 0} (does : P → List PortStep → P → Type 0)
    (renews : S → List RenewalValue → S → Type 0) → P → S → Option PlainEvent → PortStep → P → S
    → Option PlainEvent → Type 0
DoesWatched does renews p s (Some event) (Got room given) q t holds =
    does p [] q × renews s [] t × (given ≡ cut_to room event) × (holds ≡ None)
DoesWatched does renews p s (Some event) Ended q t holds = ⊥
DoesWatched does renews p s (Some event) FailedNext q t holds = ⊥
DoesWatched does renews p s None (Got room given) q t holds =
    (came : PlainEvent) × does p (Got room came ∷ []) q × IsRenewed renews s came given t holds
DoesWatched does renews p s held step q t holds =
    does p (step ∷ []) q × renews s [] t × (holds ≡ held)

abbrev pub AreDoneWatched : {P S : Type 0} (does : P → List PortStep → P → Type 0)
    (renews : S → List RenewalValue → S → Type 0) → P → S → Option PlainEvent → List PortStep → P
    → S → Option PlainEvent → Type 0
AreDoneWatched does renews p s held [] q t holds = does p [] q × renews s [] t × (holds ≡ held)
AreDoneWatched {P} {S} does renews p s held (step ∷ steps) q t holds =
    (m : P) × (u : S) × (mid : Option PlainEvent) × DoesWatched does renews p s held step m u mid
    × AreDoneWatched does renews m u mid steps q t holds
