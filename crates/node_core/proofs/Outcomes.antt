-- Events that were handled one after another. Memory may have run out for some of them.
use Rattle.std.proofs.Common.{◌≡◌, List, [], ◌∷◌, ◌++◌, subst, sym}
use Rattle.forwarder.specs.Event.{PlainEvent}
use Rattle.forwarder.specs.Node.{NodeState}
use Rattle.node_core.specs.Outcomes.{ExtendsRuns, KeepsHeadline, Outcome, Answered, NoMemory, AreOutcomes, run_from}
use Rattle.std.specs.Prelude.{All}
use Rattle.std.proofs.lemmas.List.Elements.{All-cons}
use Rattle.forwarder.specs.DataSends.{BringsOctets}
use Rattle.forwarder.specs.Headline.{Headline, IsNodeRun}
use Rattle.forwarder.specs.Policy.{Policy}
use Rattle.forwarder.specs.Runs.{Run, Then, IsPolicyOf, IsRun, KeysAreApart, Stands, events_back}
use Rattle.forwarder.proofs.Headlines.{headline_of}
use Rattle.forwarder.proofs.Standing.{step_goes_on}

pub AreOutcomes-append : (a b c : NodeState) (es fs : List PlainEvent) (rs ss : List Outcome) → AreOutcomes a es rs b → AreOutcomes b fs ss c → AreOutcomes a (es ++ fs) (rs ++ ss) c
AreOutcomes-append a b c [] fs [] ss h k = rw h at k
AreOutcomes-append a b c [] fs (r ∷ rs) ss h k = absurd h
AreOutcomes-append a b c (e ∷ es) fs [] ss h k = absurd h
AreOutcomes-append a b c (e ∷ es) fs (r ∷ rs) ss h k = (h.0, h.1, AreOutcomes-append h.0 b c es fs rs ss h.2 k)

-- if the old node agrees with a valid run from a policy at time 0, the run extended by the answered
-- events is valid, and the new node agrees with the extended run
still_run : (first : Policy) (past : Run) (old new : NodeState) (events : List PlainEvent) (outcomes : List Outcome) → first.now ≡ 0 → AreOutcomes old events outcomes new → IsRun first past
    → Stands first past old → IsRun first (run_from past events outcomes) × Stands first (run_from past events outcomes) new
still_run first past old new [] [] begins runs run stands = (run, subst (Stands first past) (sym runs) stands)
still_run first past old new [] (outcome ∷ outcomes) begins runs run stands = absurd runs
still_run first past old new (event ∷ events) [] begins runs run stands = absurd runs
still_run first past old new (event ∷ events) (Answered answer ∷ outcomes) begins runs run stands =
    let next = step_goes_on first past old runs.0 event answer begins run stands runs.1.1 in
    still_run first (Then past event answer) runs.0 new events outcomes begins runs.2 next.0 next.1
still_run first past old new (event ∷ events) (NoMemory ∷ outcomes) begins runs run stands =
    still_run first past runs.0 new events outcomes begins runs.2 run (subst (Stands first past) (sym runs.1.1) stands)

-- the keys of the answered events have different names, and their packets consist of octets
still_apart : (first : Policy) (past : Run) (old new : NodeState) (events : List PlainEvent) (outcomes : List Outcome) → AreOutcomes old events outcomes new → KeysAreApart first past
    → KeysAreApart first (run_from past events outcomes)
still_apart first past old new [] [] runs apart = apart
still_apart first past old new [] (outcome ∷ outcomes) runs apart = absurd runs
still_apart first past old new (event ∷ events) [] runs apart = absurd runs
still_apart first past old new (event ∷ events) (Answered answer ∷ outcomes) runs apart =
    still_apart first (Then past event answer) runs.0 new events outcomes runs.2 (apart, runs.1.0.1)
still_apart first past old new (event ∷ events) (NoMemory ∷ outcomes) runs apart = still_apart first past runs.0 new events outcomes runs.2 apart

still_octets : (past : Run) (old new : NodeState) (events : List PlainEvent) (outcomes : List Outcome) → AreOutcomes old events outcomes new → All BringsOctets (events_back past)
    → All BringsOctets (events_back (run_from past events outcomes))
still_octets past old new [] [] runs octets = octets
still_octets past old new [] (outcome ∷ outcomes) runs octets = absurd runs
still_octets past old new (event ∷ events) [] runs octets = absurd runs
still_octets past old new (event ∷ events) (Answered answer ∷ outcomes) runs octets =
    still_octets (Then past event answer) runs.0 new events outcomes runs.2 (All-cons BringsOctets event (events_back past) runs.1.0.0 octets)
still_octets past old new (event ∷ events) (NoMemory ∷ outcomes) runs octets = still_octets past runs.0 new events outcomes runs.2 octets

-- the headline is true of a run of a node that is extended by the answered events
has_headline : (first : Policy) (past : Run) (old new : NodeState) (events : List PlainEvent) (outcomes : List Outcome) → AreOutcomes old events outcomes new
    → IsRun first (run_from past events outcomes) → Stands first (run_from past events outcomes) new → KeepsHeadline first past (run_from past events outcomes) new.policy
has_headline first past old new events outcomes h run stands rules keys repo is past_run =
    let longer = run_from past events outcomes in
    let runs : IsNodeRun first longer = record {
      valid = run;
      keys = still_apart first past old new events outcomes h past_run.keys;
      octets = still_octets past old new events outcomes h past_run.octets;
    } in (
      runs,
      subst (λ (p : Policy). IsNodeRun p longer → IsPolicyOf p longer new.policy → Headline p longer new.policy) (sym is)
          (λ r policy. headline_of rules keys repo longer new.policy r.keys r.octets r.valid policy) runs stands.policy,
    )

pub runs_stand : (first : Policy) (past : Run) (old new : NodeState) (events : List PlainEvent) (outcomes : List Outcome) → first.now ≡ 0 → AreOutcomes old events outcomes new → IsRun first past
    → Stands first past old
    → IsRun first (run_from past events outcomes) × Stands first (run_from past events outcomes) new × KeepsHeadline first past (run_from past events outcomes) new.policy
runs_stand first past old new events outcomes begins h run stands =
    let longer = still_run first past old new events outcomes begins h run stands in (
      longer.0,
      longer.1,
      has_headline first past old new events outcomes h longer.0 longer.1,
    )

pub goes_on_from : (old new : NodeState) (events : List PlainEvent) (outcomes : List Outcome) → AreOutcomes old events outcomes new → ExtendsRuns old events outcomes new
goes_on_from old new events outcomes h = λ first past begins run stands. runs_stand first past old new events outcomes begins h run stands
