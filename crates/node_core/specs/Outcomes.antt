-- The handling of consecutive events.
use Rattle.std.specs.Prelude.{◌≡◌, List, [], ◌∷◌}
use Rattle.key_files.specs.KeyFile.{NamedKey}
use Rattle.info_rules.specs.Rule.{PlainRule}
use Rattle.ndn_tlv.specs.Element.{Field}
use Rattle.forwarder.specs.Event.{PlainEvent}
use Rattle.forwarder.specs.Node.{NodeState, IsStep, AsksNoMemory}
use Rattle.forwarder.specs.Headline.{Headline, IsNodeRun}
use Rattle.forwarder.specs.Policy.{Policy, first_policy}
use Rattle.forwarder.specs.Runs.{Run, Then, BringsKeysApart, IsRun, Stands}
use Rattle.forwarder.specs.DataSends.{BringsOctets}
use Rattle.forwarder.specs.Verdict.{Answer}

-- the outcome of an event: an answer, or that memory ran out
pub data Outcome : Type 0 where
  Answered : (answer : Answer) → Outcome
  NoMemory : Outcome

-- the event is valid: a packet that it brings consists of octets below 256, and keys that it brings
-- have different names
abbrev pub IsEvent : PlainEvent → Type 0
IsEvent event = BringsOctets event × BringsKeysApart event

-- The event is valid (`IsEvent`) and has this outcome. `Answered`: a step with this answer leads
-- from the node `old` to the node `new`. `NoMemory`: memory ran out for the event, which is
-- possible only for an event that needs memory; in this case, the node is unchanged.
abbrev pub IsOutcome : NodeState → PlainEvent → Outcome → NodeState → Type 0
IsOutcome old event (Answered answer) new = IsEvent event × IsStep old event answer new
IsOutcome old event NoMemory new =
    IsEvent event × (new ≡ old) × (AsksNoMemory old event → ⊥)

-- `outcomes` has one outcome for each event, in the order of the events; handling the events with
-- these outcomes leads from the old node to the new node
abbrev pub AreOutcomes : NodeState → List PlainEvent → List Outcome → NodeState → Type 0
AreOutcomes old [] [] new = new ≡ old
AreOutcomes old [] (done_as ∷ outcomes) new = ⊥
AreOutcomes old (event ∷ events) [] new = ⊥
AreOutcomes old (event ∷ events) (done_as ∷ outcomes) new =
    (next : NodeState) × IsOutcome old event done_as next × AreOutcomes next events outcomes new

-- The run `past`, extended by the events that were answered, with their answers. Events with the
-- outcome `NoMemory` and events without an outcome are left out.
abbrev pub run_from : Run → List PlainEvent → List Outcome → Run
run_from past [] outcomes = past
run_from past (event ∷ events) [] = past
run_from past (event ∷ events) (Answered answer ∷ outcomes) =
    run_from (Then past event answer) events outcomes
run_from past (event ∷ events) (NoMemory ∷ outcomes) = run_from past events outcomes

-- If `first` is the policy of a new node and `past` is a run of a node, then `longer` is a run of a
-- node too, and the headline is true of this run, which leads to the policy `p`.
abbrev pub KeepsHeadline : Policy → Run → Run → Policy → Type 0
KeepsHeadline first past longer p =
    (rules : List PlainRule) (keys : List NamedKey) (repo : List Field)
    → first ≡ first_policy rules keys repo → IsNodeRun first past
    → IsNodeRun first longer × Headline first longer p

-- If the old node agrees (`Stands`) with a valid run from a policy whose time is 0, then this run,
-- extended by the answered events, is valid, the new node agrees with the extended run, and the
-- headline is true of the extended run.
abbrev pub ExtendsRuns : NodeState → List PlainEvent → List Outcome → NodeState → Type 0
ExtendsRuns old events outcomes new =
    (first : Policy) (past : Run) → first.now ≡ 0 → IsRun first past → Stands first past old
    → IsRun first (run_from past events outcomes)
    × Stands first (run_from past events outcomes) new
    × KeepsHeadline first past (run_from past events outcomes) new.policy
