-- A step leaves a sound node sound. A step that does not run out of memory extends each valid run
-- that starts from a policy with the time 0, if the node agrees with the run.
use Rattle.std.proofs.Common.{◌≡◌, ℕ, List, [], length, drop, Result, Ok, Err, refl, sym, ap, subst, ◌∙◌}
use Rattle.std.specs.Prelude.{IfOk, OnErr}
use Rattle.std.proofs.lemmas.List.{append-nil, drop_at}
use Rattle.ndn_tlv.specs.declared.memory.Memory.{Memory}
use Rattle.key_files.specs.KeyFile.{NamedKey}
use Rattle.info_rules.specs.Rule.{PlainRule}
use Rattle.pit_fib.specs.Records.{Pending, HoldsTheLiving, records_at}
use Rattle.forwarder.specs.declared.verdict.Verdict as code
use Rattle.forwarder.specs.Event.{PlainEvent, NewRules, Send, Tick}
use Rattle.forwarder.specs.Node.{NodeState, IsStep}
use Rattle.forwarder.specs.Policy.{Policy, with_rules}
use Rattle.forwarder.specs.Runs.{Run, Then, IsRun, Stands}
use Rattle.forwarder.specs.State.{IsLater, IsSound}
use Rattle.forwarder.specs.Verdict.{passed, verdict_of}
use Rattle.forwarder.proofs.Handled.{StepsBy}
use Rattle.forwarder.proofs.Soundness.{step_sound}
use Rattle.forwarder.proofs.Standing.{step_goes_on}

pub sound_after : (old new : NodeState) (before after : List Send) (event : PlainEvent) (r : Result code.Verdict Memory) → IsSound old
    → IfOk r (StepsBy old new before after event) → OnErr r ((new ≡ old) × (after ≡ before)) → IsSound new
sound_after old new before after event (Ok verdict) sound (sends, is, step) none = step_sound old new event (record { verdict = verdict_of verdict; sends = sends }) sound step
sound_after old new before after event (Err memory) sound none (same, is) = subst IsSound (sym same) sound

abbrev pub ExtendsRunsByEvent : NodeState → NodeState → List Send → PlainEvent → code.Verdict → Type 0
ExtendsRunsByEvent old new sends event verdict =
    (first : Policy) (past : Run) → first.now ≡ 0 → IsRun first past → Stands first past old
    → IsRun first (Then past event (record { verdict = verdict_of verdict; sends = sends }))
    × Stands first (Then past event (record { verdict = verdict_of verdict; sends = sends })) new

pub goes_on : (old new : NodeState) (before after : List Send) (event : PlainEvent) (verdict : code.Verdict) → StepsBy old new before after event verdict
    → ExtendsRunsByEvent old new (drop (length before) after) event verdict
goes_on old new before after event verdict (sends, is, step) first past begins is_run stands =
    let same : drop (length before) after ≡ sends = ap (drop (length before)) is ∙ drop_at before sends (length before) refl in
    subst (λ (s : List Send). IsRun first (Then past event (record { verdict = verdict_of verdict; sends = s }))
    × Stands first (Then past event (record { verdict = verdict_of verdict; sends = s })) new) (sym same)
    (step_goes_on first past old new event (record { verdict = verdict_of verdict; sends = sends }) begins is_run stands step)

pub stays_quiet : (old new : NodeState) (before : List Send) (event : PlainEvent) (verdict : code.Verdict)
    → IsStep old event (record { verdict = verdict_of verdict; sends = [] }) new → StepsBy old new before before event verdict
stays_quiet old new before event verdict step = ([], sym (append-nil before), step)

-- if only time advances, the node makes the step of a tick
pub tick_step : (old new : NodeState) (now : ℕ) → IsLater old now new → IsStep old (Tick now) (passed []) new
tick_step old new now later = record {
  waiting = new.pending;
  living = later.living;
  expiry = later.expiry;
  replies = refl;
  policy = later.policy;
  pending = λ key. refl;
  alive = later.living;
  cache = later.cache;
}

-- if time advances and rules and keys are replaced, the node makes the step of NewRules
pub rules_step : (old later new : NodeState) (rules : List PlainRule) (keys : List NamedKey) (now : ℕ) → IsLater old now later
    → new.policy ≡ with_rules later.policy rules keys → new.pending ≡ later.pending → new.cache ≡ later.cache
    → IsStep old (NewRules rules keys now) (passed []) new
rules_step old later new rules keys now h policy pending cache = record {
  waiting = later.pending;
  living = h.living;
  expiry = h.expiry;
  replies = refl;
  policy = policy ∙ ap (λ (p : Policy). with_rules p rules keys) h.policy;
  pending = λ key. ap (λ (p : Pending). records_at p key) pending;
  alive = subst HoldsTheLiving (sym pending) h.living;
  cache = cache ∙ h.cache;
}
