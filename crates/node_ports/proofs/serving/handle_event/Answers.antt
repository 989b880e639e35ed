use Rattle.std.proofs.Common.{◌≡◌, ◌++◌, [], ◌∷◌, max, true, refl, sym, subst, ◌∙◌}
use Rattle.std.specs.Prelude.{Bool}
use Rattle.forwarder.specs.Event.{at, moment, plain}
use Rattle.forwarder.specs.Verdict.{Answer, verdict_of}
use Rattle.node_core.specs.Outcomes.{Answered, IsOutcome}
use Rattle.node_core.proofs.Outcomes.{goes_on_from}
use Rattle.forwarder.proofs.LaterMoments.{after_now}
use Rattle.journal.specs.Appending.{IsLineAt}
use Rattle.node_core.specs.Script.LineWriter.{event_text}
use Rattle.node_ports.specs.Serving.{Journals, has_line}
use Rattle.node_ports.specs.Step.{FailedWrite, line_steps}
use Rattle.node_ports.proofs.Turns.{Handles-answered, Handles-refused, committed, front_of, grows_by, journals_by, step_of_outbox, written_is}
use Rattle.node_ports.proofs.serving.handle_event.Goals as goal

pub returns-in-Err : goal.returns-in-Err
returns-in-Err g c = (
  [],
  g.met.P.Ports.rests _,
  (
    Handles-refused _ c.args.node.now c.step.new.self (plain c.args.event) c.in-Err.field-0 (c.step.ensures.octets, c.step.ensures.keys) c.in-Err.ensures.memory.0 c.in-Err.ensures.without_memory,
    c.in-Err.ensures.memory.1 ∙ c.requires.empty,
  ),
)

pub returns-in-Ok-commit : goal.returns-in-Ok-commit
returns-in-Ok-commit g c =
    let event = plain c.args.event in
    let old = c.args.node.now in
    let new = c.step.new.self in
    let v = verdict_of c.in-Ok.verdict in
    let has = g.P.Ports.has_journal c.args.ports.now in
    let step = step_of_outbox old new event c.in-Ok.verdict c.args.outbox.now c.step.new.outbox c.requires.empty c.in-Ok.ensures.answered in
    let later : c.now.result ≡ max old.policy.now (moment event) = c.now.ensures ∙ after_now old.policy new.policy event step.policy in
    let chosen = committed has c.now.result c.args.written event v c.requires.written in
    let done = rw c.at.ensures at c.in-Ok-commit.ensures.done in
    let says = rw c.at.ensures at c.in-Ok-commit.ensures.line in
    let lines = line_steps (has_line has event v) (event_text (at c.now.result c.args.written)) in
    let did : g.P.Ports.does c.args.ports.now lines c.commit.new.self =
    subst (λ (b : Bool). g.P.Ports.does c.args.ports.now (line_steps b (event_text (at c.now.result c.args.written))) c.commit.new.self) chosen done in
    let line : has_line has event v ≡ true → IsLineAt (at c.now.result c.args.written) = λ is. says (chosen ∙ is) in
    let journals : Journals (has_line has event v) old event lines = journals_by (has_line has event v) old event c.args.written c.now.result c.requires.written later line in
    let sent = c.send_all-failed.ensures in (
      lines ++ sent.0,
      g.met.P.Ports.goes_on c.args.ports.now c.commit.new.self c.send_all-failed.new.ports lines sent.0 did sent.1,
      Handles-answered has old new event v c.step.new.outbox c.send_all-failed.result lines sent.0 (c.step.ensures.octets, c.step.ensures.keys) step journals sent.2,
    )

pub returns-in-Err-commit : goal.returns-in-Err-commit
returns-in-Err-commit g c =
    let event = plain c.args.event in
    let old = c.args.node.now in
    let new = c.step.new.self in
    let v = verdict_of c.in-Ok.verdict in
    let has = g.P.Ports.has_journal c.args.ports.now in
    let step = step_of_outbox old new event c.in-Ok.verdict c.args.outbox.now c.step.new.outbox c.requires.empty c.in-Ok.ensures.answered in
    let later : c.now.result ≡ max old.policy.now (moment event) = c.now.ensures ∙ after_now old.policy new.policy event step.policy in
    let chosen = committed has c.now.result c.args.written event v c.requires.written in
    let failed = rw c.at.ensures at c.in-Err-commit.ensures.failed in
    let must : has_line has event v ≡ true = sym chosen ∙ failed.0 in
    let answer : Answer = record { verdict = v; sends = c.step.new.outbox } in
    let handled : IsOutcome old event (Answered answer) new = ((c.step.ensures.octets, c.step.ensures.keys), step) in (
      FailedWrite failed.1.0 ∷ [],
      failed.1.2,
      (
        record {
          event = event;
          answer = answer;
          handled = handled;
          must = must;
          front = failed.1.0;
          is_front = front_of old event c.args.written c.now.result failed.1.0 c.requires.written later failed.1.1;
          goes_on = goes_on_from old new (event ∷ []) (Answered answer ∷ []) (new, handled, refl);
          journal = λ line is. grows_by old new event v c.step.new.outbox step line (written_is has _ must) is;
          are_steps = refl;
        },
        c.clear.ensures,
      ),
    )
