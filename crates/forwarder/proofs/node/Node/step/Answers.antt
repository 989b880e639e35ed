use Rattle.std.proofs.Common.{[]}
use Rattle.std.proofs.lemmas.Result.{IfOk-weaker}
use Rattle.forwarder.specs.Event.{Packet, FaceUp, FaceDown, Tick, NewRules}
use Rattle.forwarder.specs.State.{state_of}
use Rattle.forwarder.specs.Verdict.{passed}
use Rattle.forwarder.specs.declared.verdict.Verdict.TheVariants as said
use Rattle.forwarder.proofs.GoingOn.{goes_on, sound_after, stays_quiet, tick_step}
use Rattle.forwarder.proofs.Headlines.{extends_headline}
use Rattle.forwarder.proofs.Soundness.{step_sound}
use Rattle.forwarder.proofs.Stores.{step_store, store_after}
use Rattle.forwarder.proofs.StoredData.{later_stores, undecided_stores}
use Rattle.forwarder.proofs.node.Node.step.Goals as goal

pub receive-requires-clause-sound : goal.receive-requires-clause-sound
receive-requires-clause-sound c = c.self.invariant.0

pub receive-requires-clause-objects : goal.receive-requires-clause-objects
receive-requires-clause-objects c = c.self.invariant.1

pub open-requires : goal.open-requires
open-requires c = c.self.invariant.0

pub close-requires : goal.close-requires
close-requires c = c.self.invariant.0

pub invariant_of-self : goal.invariant_of-self
invariant_of-self c = (
  sound_after (state_of c.self.inside.state) (state_of c.receive.new.self) _ _ (Packet c.in-Packet.face c.in-Packet.now c.in-Packet.octets.now)
      c.receive.result c.self.invariant.0 c.receive.ensures.handled c.receive.ensures.memory,
  c.receive.ensures.objects,
  store_after (state_of c.self.inside.state) (state_of c.receive.new.self) _ _ (Packet c.in-Packet.face c.in-Packet.now c.in-Packet.octets.now)
      c.receive.result c.receive.ensures.octets c.self.invariant.2 c.receive.ensures.handled c.receive.ensures.memory,
)

pub invariant_of-self-in-FaceUp : goal.invariant_of-self-in-FaceUp
invariant_of-self-in-FaceUp c = (
  step_sound _ _ _ _ c.self.invariant.0 c.open.ensures,
  undecided_stores (state_of c.self.inside.state).policy (state_of c.open.new.self).policy (FaceUp c.in-FaceUp.face c.in-FaceUp.scope c.in-FaceUp.now) c.open.ensures.policy c.self.invariant.1,
  step_store (state_of c.self.inside.state) (state_of c.open.new.self) _ _ tt c.self.invariant.2 c.open.ensures,
)

pub invariant_of-self-in-FaceDown : goal.invariant_of-self-in-FaceDown
invariant_of-self-in-FaceDown c = (
  step_sound _ _ _ _ c.self.invariant.0 c.close.ensures,
  undecided_stores (state_of c.self.inside.state).policy (state_of c.close.new.self).policy (FaceDown c.in-FaceDown.face c.in-FaceDown.now) c.close.ensures.policy c.self.invariant.1,
  step_store (state_of c.self.inside.state) (state_of c.close.new.self) _ _ tt c.self.invariant.2 c.close.ensures,
)

pub invariant_of-self-in-Tick : goal.invariant_of-self-in-Tick
invariant_of-self-in-Tick c = (
  step_sound (state_of c.self.inside.state) (state_of c.pass_time.new.self) (Tick c.in-Tick.now) (passed []) c.self.invariant.0
      (tick_step (state_of c.self.inside.state) (state_of c.pass_time.new.self) c.in-Tick.now c.pass_time.ensures.later),
  later_stores c.self.inside.state c.pass_time.new.self c.in-Tick.now c.pass_time.ensures.later c.self.invariant.1,
  step_store (state_of c.self.inside.state) (state_of c.pass_time.new.self) (Tick c.in-Tick.now) (passed []) tt c.self.invariant.2
      (tick_step (state_of c.self.inside.state) (state_of c.pass_time.new.self) c.in-Tick.now c.pass_time.ensures.later),
)

pub invariant_of-self-in-NewRules : goal.invariant_of-self-in-NewRules
invariant_of-self-in-NewRules c = (
  step_sound _ _ _ _ c.self.invariant.0 c.replace_rules.ensures.step,
  undecided_stores (state_of c.self.inside.state).policy (state_of c.replace_rules.new.self).policy (NewRules c.in-NewRules.rules.rules c.in-NewRules.rules.keys c.in-NewRules.now)
      c.replace_rules.ensures.step.policy c.self.invariant.1,
  step_store (state_of c.self.inside.state) (state_of c.replace_rules.new.self) _ _ tt c.self.invariant.2 c.replace_rules.ensures.step,
)

pub returns-in-Packet-clause-run : goal.returns-in-Packet-clause-run
returns-in-Packet-clause-run c =
    rw (← c.self.view_is, ← c.outbox.view_is, c.in-Packet.is)
    (IfOk-weaker c.receive.result _ _
    (λ verdict step. goes_on (state_of c.self.inside.state) (state_of c.receive.new.self) c.outbox.inside.sends.sends c.receive.new.out.sends
    (Packet c.in-Packet.face c.in-Packet.now c.in-Packet.octets.now) verdict step) c.receive.ensures.handled)

pub returns-in-FaceUp-clause-run : goal.returns-in-FaceUp-clause-run
returns-in-FaceUp-clause-run c =
    rw (← c.self.view_is, ← c.outbox.view_is, c.in-FaceUp.is)
    (goes_on (state_of c.self.inside.state) (state_of c.open.new.self) c.outbox.inside.sends.sends c.outbox.inside.sends.sends
    (FaceUp c.in-FaceUp.face c.in-FaceUp.scope c.in-FaceUp.now) c.open.result (stays_quiet _ _ _ _ c.open.result c.open.ensures))

pub returns-in-FaceDown-clause-run : goal.returns-in-FaceDown-clause-run
returns-in-FaceDown-clause-run c =
    rw (← c.self.view_is, ← c.outbox.view_is, c.in-FaceDown.is)
    (goes_on (state_of c.self.inside.state) (state_of c.close.new.self) c.outbox.inside.sends.sends c.outbox.inside.sends.sends
    (FaceDown c.in-FaceDown.face c.in-FaceDown.now) c.close.result (stays_quiet _ _ _ _ c.close.result c.close.ensures))

pub returns-in-Tick-clause-answered : goal.returns-in-Tick-clause-answered
returns-in-Tick-clause-answered c =
    rw (← c.self.view_is, ← c.outbox.view_is, c.in-Tick.is)
    (stays_quiet (state_of c.self.inside.state) (state_of c.pass_time.new.self) c.outbox.inside.sends.sends (Tick c.in-Tick.now) said.Passed
    (tick_step (state_of c.self.inside.state) (state_of c.pass_time.new.self) c.in-Tick.now c.pass_time.ensures.later))

pub returns-in-Tick-clause-run : goal.returns-in-Tick-clause-run
returns-in-Tick-clause-run c =
    rw (← c.self.view_is, ← c.outbox.view_is, c.in-Tick.is)
    (goes_on (state_of c.self.inside.state) (state_of c.pass_time.new.self) c.outbox.inside.sends.sends c.outbox.inside.sends.sends (Tick c.in-Tick.now) said.Passed
    (stays_quiet _ _ _ _ said.Passed (tick_step (state_of c.self.inside.state) (state_of c.pass_time.new.self) c.in-Tick.now c.pass_time.ensures.later)))

pub returns-in-NewRules-clause-run : goal.returns-in-NewRules-clause-run
returns-in-NewRules-clause-run c =
    rw (← c.self.view_is, ← c.outbox.view_is, c.in-NewRules.is)
    (goes_on (state_of c.self.inside.state) (state_of c.replace_rules.new.self) c.outbox.inside.sends.sends c.outbox.inside.sends.sends
    (NewRules c.in-NewRules.rules.rules c.in-NewRules.rules.keys c.in-NewRules.now) c.replace_rules.result (stays_quiet _ _ _ _ c.replace_rules.result c.replace_rules.ensures.step))

pub returns-in-Packet-clause-headline : goal.returns-in-Packet-clause-headline
returns-in-Packet-clause-headline c =
    rw (← c.self.view_is, ← c.outbox.view_is, c.in-Packet.is)
    (IfOk-weaker c.receive.result _ _
    (λ verdict step. extends_headline (state_of c.self.inside.state) (state_of c.receive.new.self) c.outbox.inside.sends.sends c.receive.new.out.sends
    (Packet c.in-Packet.face c.in-Packet.now c.in-Packet.octets.now) verdict c.receive.ensures.octets tt step) c.receive.ensures.handled)

pub returns-in-FaceUp-clause-headline : goal.returns-in-FaceUp-clause-headline
returns-in-FaceUp-clause-headline c =
    rw (← c.self.view_is, ← c.outbox.view_is, c.in-FaceUp.is)
    (extends_headline (state_of c.self.inside.state) (state_of c.open.new.self) c.outbox.inside.sends.sends c.outbox.inside.sends.sends
    (FaceUp c.in-FaceUp.face c.in-FaceUp.scope c.in-FaceUp.now) c.open.result tt tt (stays_quiet _ _ _ _ c.open.result c.open.ensures))

pub returns-in-FaceDown-clause-headline : goal.returns-in-FaceDown-clause-headline
returns-in-FaceDown-clause-headline c =
    rw (← c.self.view_is, ← c.outbox.view_is, c.in-FaceDown.is)
    (extends_headline (state_of c.self.inside.state) (state_of c.close.new.self) c.outbox.inside.sends.sends c.outbox.inside.sends.sends
    (FaceDown c.in-FaceDown.face c.in-FaceDown.now) c.close.result tt tt (stays_quiet _ _ _ _ c.close.result c.close.ensures))

pub returns-in-Tick-clause-headline : goal.returns-in-Tick-clause-headline
returns-in-Tick-clause-headline c =
    rw (← c.self.view_is, ← c.outbox.view_is, c.in-Tick.is)
    (extends_headline (state_of c.self.inside.state) (state_of c.pass_time.new.self) c.outbox.inside.sends.sends c.outbox.inside.sends.sends (Tick c.in-Tick.now) said.Passed tt tt
    (stays_quiet _ _ _ _ said.Passed (tick_step (state_of c.self.inside.state) (state_of c.pass_time.new.self) c.in-Tick.now c.pass_time.ensures.later)))

pub returns-in-NewRules-clause-headline : goal.returns-in-NewRules-clause-headline
returns-in-NewRules-clause-headline c =
    rw (← c.self.view_is, ← c.outbox.view_is, c.in-NewRules.is)
    (extends_headline (state_of c.self.inside.state) (state_of c.replace_rules.new.self) c.outbox.inside.sends.sends c.outbox.inside.sends.sends
    (NewRules c.in-NewRules.rules.rules c.in-NewRules.rules.keys c.in-NewRules.now) c.replace_rules.result tt c.replace_rules.ensures.apart (stays_quiet _ _ _ _ c.replace_rules.result c.replace_rules.ensures.step))

pub returns-in-Packet-clause-store : goal.returns-in-Packet-clause-store
returns-in-Packet-clause-store c =
    store_after (state_of c.self.inside.state) (state_of c.receive.new.self) _ _ (Packet c.in-Packet.face c.in-Packet.now c.in-Packet.octets.now)
    c.receive.result c.receive.ensures.octets c.self.invariant.2 c.receive.ensures.handled c.receive.ensures.memory
