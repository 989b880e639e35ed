-- Ports that give some events of their own before what arrives at the underlying ports.
use Rattle.std.specs.Prelude.{◌≡◌, List, [], ◌∷◌}
use Rattle.forwarder.specs.Event.{PlainEvent}
use Rattle.node_ports.specs.Ports.{cut_to}
use Rattle.node_ports.specs.Step.{PortStep, Got, Ended, FailedNext}

-- One step from ports with the events `own` to ports with the events `left`. While there are events
-- of their own, an arrival is the first of these, and the underlying ports do nothing. Every other
-- step is exactly the step of the underlying ports.
abbrev pub DoesRestarted : {P : Type 0} (does : P → List PortStep → P → Type 0) → P
    → List PlainEvent → PortStep → P → List PlainEvent → Type 0
DoesRestarted does p (event ∷ own) (Got room given) q left =
    does p [] q × (given ≡ cut_to room event) × (left ≡ own)
DoesRestarted does p (event ∷ own) Ended q left = ⊥
DoesRestarted does p (event ∷ own) FailedNext q left = ⊥
DoesRestarted does p own step q left = does p (step ∷ []) q × (left ≡ own)

abbrev pub AreDoneRestarted : {P : Type 0} (does : P → List PortStep → P → Type 0) → P
    → List PlainEvent → List PortStep → P → List PlainEvent → Type 0
AreDoneRestarted does p own [] q left = does p [] q × (left ≡ own)
AreDoneRestarted {P} does p own (step ∷ steps) q left =
    (m : P) × (rest : List PlainEvent) × DoesRestarted does p own step m rest
    × AreDoneRestarted does m rest steps q left
