-- Consecutive turns of a node at a port, and the text that is printed.
use Rattle.std.proofs.Common.{◌≡◌, ℕ, ◌+◌, List, [], ◌∷◌, ◌++◌, length, refl, sym, ap, subst, ◌∙◌, arith, append-nil}
use Rattle.std.specs.Prelude.{Bool, Option, Result, Ok, Err, IsOk, IfErr, OnOk, true, false}
use Rattle.info_rules.specs.Rule.{PlainRule}
use Rattle.forwarder.specs.Event.{PlainEvent, Send}
use Rattle.forwarder.specs.Node.{NodeState}
use Rattle.node_ports.specs.declared.serving.Turn.{Turn}
use Rattle.node_ports.specs.declared.serving.Turn.TheVariants.{Done, Refused, Unwritten, End}
use Rattle.node_core.specs.Outcomes.{Outcome, Answered, NoMemory, AreOutcomes}
use Rattle.forwarder.specs.Verdict.{verdict_of}
use Rattle.node_ports.specs.Serving.{Handles, IsTurn, refused_count}
use Rattle.node_ports.specs.Step.{PortStep, Ended}
use Rattle.node_core.specs.Script.Writing.{outcome_text, script_text}
use Rattle.node_core.proofs.Playing.{outcomes_text-append, same_text}
use Rattle.node_ports.proofs.Turns.{Serves-start, Serves-more, turns_outcomes}
use Rattle.ndn_daemon.specs.declared.fault.Fault.{Fault}
use Rattle.ndn_daemon.specs.Turn.{EndsAs, ServesTurns, StopsQuietTurns, StopsTurns, TakesTurns, Tells, turn_text}

-- there are as many outcomes as events
as_many : (old new : NodeState) (events : List PlainEvent) (outcomes : List Outcome) → AreOutcomes old events outcomes new → length events ≡ length outcomes
as_many old new [] [] h = refl
as_many old new [] (outcome ∷ outcomes) h = absurd h
as_many old new (event ∷ events) [] h = absurd h
as_many old new (event ∷ events) (outcome ∷ outcomes) h = let e = as_many h.0 new events outcomes h.2 in omega (arith, e)

pub Tells-none : (has : Bool) (node : NodeState) → Tells has node node 0 [] []
Tells-none has node =
    let s = Serves-start has node in
    record { refused = 0; failed = 0; serves = s.0; text_is = sym (ap (λ (es : List PlainEvent). script_text node.policy.rules es s.0.outcomes) s.1) }

Tells-more : (has : Bool) (old mid new : NodeState) (number more : ℕ) (before turn : List PortStep) (text : List ℕ) (done_as : Outcome) → Tells has old mid number before text
    → Handles has mid new done_as more turn → Tells has old new (number + 1) (before ++ turn) (text ++ outcome_text mid.policy.rules (number + 1) done_as)
Tells-more has old mid new number more before turn text done_as h k =
    let rules : List PlainRule = old.policy.rules in
    let line = outcome_text mid.policy.rules (number + 1) done_as in
    let s = Serves-more has old mid new number h.refused h.failed more done_as before turn h.serves k in
    let past = script_text rules h.serves.arrivals h.serves.outcomes in
    let handled = turns_outcomes has old mid h.serves.arrivals h.serves.outcomes h.failed before h.serves.turns in
    let many : 1 + length h.serves.outcomes ≡ number + 1 =
    let a = as_many old mid h.serves.arrivals h.serves.outcomes handled in let b = h.serves.events_is in omega (arith, a, b) in
    record {
      refused = h.refused + refused_count (done_as ∷ []);
      failed = h.failed + more;
      serves = s.0;
      text_is =
          ap (λ (t : List ℕ). t ++ line) h.text_is
          ∙ ap (λ (t : List ℕ). past ++ t) (sym (append-nil line))
          ∙ sym (outcomes_text-append old mid h.serves.arrivals h.serves.outcomes handled 1 (k.event ∷ []) (done_as ∷ [])
          ∙ ap (λ (n : ℕ). past ++ (outcome_text mid.policy.rules n done_as ++ [])) many)
          ∙ sym (ap (λ (es : List PlainEvent). script_text rules es s.0.outcomes) s.1 ∙ ap (script_text rules (h.serves.arrivals ++ (k.event ∷ []))) s.2);
    }

-- if `text` is the text of the first `number` events, and one more turn is neither `End` nor
-- `Unwritten`, then `text` followed by the text of this turn is the text of the first `number + 1`
-- events
pub Tells-turn : (has : Bool) (old mid new : NodeState) (number : ℕ) (before turn : List PortStep) (text : List ℕ) (sends : List Send) (rules : List PlainRule) (done : Turn) → (done ≡ End → ⊥)
    → (done ≡ Unwritten → ⊥) → Tells has old mid number before text → IsTurn has mid new sends done turn → rules ≡ new.policy.rules
    → Tells has old new (number + 1) (before ++ turn) (text ++ turn_text (number + 1) rules done sends)
Tells-turn has old mid new number before turn text sends rules (Done verdict failed) goes_on written h k shown =
    let done_as = Answered (record { verdict = verdict_of verdict; sends = sends }) in
    let same : turn_text (number + 1) rules (Done verdict failed) sends ≡ outcome_text mid.policy.rules (number + 1) done_as =
    ap (λ (l : List PlainRule). outcome_text l (number + 1) done_as) shown ∙ same_text mid new k.event done_as (number + 1) k.handled in
    rw same (Tells-more has old mid new number failed before turn text done_as h k)
Tells-turn has old mid new number before turn text sends rules Refused goes_on written h k shown =
    rw k.1 (Tells-more has old mid new number 0 before turn text NoMemory h k.0)
Tells-turn has old mid new number before turn text sends rules Unwritten goes_on written h k shown = absurd (written refl)
Tells-turn has old mid new number before turn text sends rules End goes_on written h k shown = absurd (goes_on refl)

-- a turn in which the port ended changes nothing
pub Tells-ended : (has : Bool) (old mid new : NodeState) (number : ℕ) (before turn : List PortStep) (text : List ℕ) (sends : List Send) (done : Turn) → done ≡ End
    → Tells has old mid number before text → IsTurn has mid new sends done turn → Tells has old new number before text × (turn ≡ Ended ∷ [])
Tells-ended has old mid new number before turn text sends done is h k =
    let e : IsTurn has mid new sends End turn = subst (λ (t : Turn). IsTurn has mid new sends t turn) is k in
    (subst (λ (n : NodeState). Tells has old n number before text) (sym e.0) h, e.2)

-- if `r` is a success, it has no fault, so `IfErr r P` is true for every `P`
pub no_fault : (r : Result (Unit {0}) Fault) (P : Fault → Type 0) → IsOk r → IfErr r P
no_fault (Ok done) P h = tt
no_fault (Err why) P h = let no : ⊥ = cc in absurd no

-- the end of the turns of a node that prints its answers
pub ends_printed : (D : List PortStep → Type 0) (has : Bool) (old new : NodeState) (turns : ℕ) (held holds : Option (List ℕ)) (r : Result (Unit {0}) Fault)
    → OnOk r ((steps : List PortStep) × D steps × TakesTurns has old new turns steps held holds)
    → IfErr r (λ why. (steps : List PortStep) × D steps × StopsTurns has old new turns steps held holds why)
    → (steps : List PortStep) × D steps × EndsAs false has old new turns steps held holds r
ends_printed D has old new turns held holds (Ok done) h k = h
ends_printed D has old new turns held holds (Err why) h k = k

-- the end of the turns of a quiet node
pub ends_quiet : (D : List PortStep → Type 0) (has : Bool) (old new : NodeState) (turns : ℕ) (held holds : Option (List ℕ)) (r : Result (Unit {0}) Fault)
    → OnOk r ((steps : List PortStep) × D steps × ServesTurns has old new turns steps)
    → IfErr r (λ why. (steps : List PortStep) × D steps × StopsQuietTurns has old new turns steps why) → holds ≡ held
    → (steps : List PortStep) × D steps × EndsAs true has old new turns steps held holds r
ends_quiet D has old new turns held holds (Ok done) h k same = (h.0, h.1, (h.2, same))
ends_quiet D has old new turns held holds (Err why) h k same = (k.0, k.1, (k.2, same))
