-- A new node agrees with the empty run. If a valid run starts from a policy with the time 0, a step
-- of a node that agrees with the run extends the run, unless the step runs out of memory.
use Rattle.std.proofs.Common.{◌≡◌, ℕ, [], refl, ap}
use Rattle.std.specs.Prelude.{Option, unwrap_or}
use Rattle.std.specs.FinMap as map
use Rattle.std.specs.FinMap.{get-empty}
use Rattle.std.proofs.lemmas.List.Elements.{All-nil}
use Rattle.ndn_packets.specs.Key.{key_cmp}
use Rattle.pit_fib.specs.Records.{Records, no_records}
use Rattle.forwarder.specs.Event.{PlainEvent}
use Rattle.forwarder.specs.Node.{NodeState, IsStep}
use Rattle.forwarder.specs.Policy.{Policy}
use Rattle.forwarder.specs.Runs.{Run, Start, Then, IsRun, MayHold, Stands}
use Rattle.forwarder.specs.Verdict.{Answer}
use Rattle.forwarder.proofs.RunSteps.{may_reply, pending_is}
use Rattle.forwarder.proofs.RunCaches.{cache_held}

-- a node with the policy `first`, no records and an empty cache agrees with the empty run
pub new_stands : (first : Policy) (capacity : ℕ) → Stands first Start (record { policy = first; pending = map.empty; cache = record { cached = []; capacity = capacity } })
new_stands first capacity =
    record { policy = refl; pending = λ key. ap (λ (o : Option Records). unwrap_or o no_records) (get-empty key_cmp key); cache = All-nil (MayHold Start) }

-- if a valid run starts from a policy with the time 0, a step of a node that agrees with the run
-- extends the run to a longer valid run, with which the new node agrees
pub step_goes_on : (first : Policy) (past : Run) (old new : NodeState) (event : PlainEvent) (answer : Answer) → first.now ≡ 0 → IsRun first past → Stands first past old → IsStep old event answer new
    → IsRun first (Then past event answer) × Stands first (Then past event answer) new
step_goes_on first past old new event answer begins is_run stands step = (
  (is_run, may_reply first past old new event answer begins stands step),
  record {
    policy = (old.policy, stands.policy, step.policy);
    pending = pending_is first past old new event answer begins stands step;
    cache = cache_held first past old new event answer begins stands step;
  },
)
