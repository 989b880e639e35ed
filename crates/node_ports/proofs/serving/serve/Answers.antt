use Rattle.std.proofs.Common.{◌≡◌, ◌+◌, ◌∙◌, ◌++◌, ◌∷◌, [], ℕ, ◌-◌, ◌^◌, min, refl, ap, arith, append-nil, sym, List}
use Rattle.std.specs.Prelude.{Bool}
use Rattle.node_ports.specs.Step.{PortStep, FailedNext}
use Rattle.node_ports.specs.declared.serving.Served.{Served}
use Rattle.node_ports.specs.Serving.{end_steps}
use Rattle.node_ports.proofs.Turns.{Serves-none, Serves-answered, Serves-refused, count_of-add}
use Rattle.node_ports.proofs.serving.serve.Goals as goal
use Rattle.node_ports.proofs.serving.serve.Goals.{in-Done, in-Refused}

pub loop-init : goal.loop-init
loop-init g c = record { ended = refl; few = omega arith; events = refl; serves = (0, [], g.met.P.Ports.rests _, Serves-none _ _, refl) }

pub loop-preserved : goal.loop-preserved
loop-preserved g c =
    let i = c.loop.invariant in
    let s = i.serves in
    let has = g.P.Ports.has_journal c.args.ports.now in
    let same : g.P.Ports.has_journal c.loop.ports ≡ has = g.met.P.Ports.stays _ _ s.1 s.2 in
    let on = g.met.P.Ports.goes_on c.args.ports.now c.loop.ports c.serve_turn_in.new.ports in
    elim c.match-turn.branch [
      | in-Done w ↦
          let turn = rw (w.in-Done.is, same) at c.in-Ok.ensures.turn in
          let serves = Serves-answered has c.args.node.now c.loop.node c.serve_turn_in.new.node c.loop.served.events c.loop.served.refused s.0 w.in-Done.failed _ s.1 turn.0 s.3 turn.2 in
          let count = w.saturating_add.ensures ∙ ap (λ (n : ℕ). min (n + w.in-Done.failed) (2 ^ 64 - 1)) s.4 ∙ count_of-add s.0 w.in-Done.failed in
          record {
            ended = ap (λ (s : Served). s.ended) w.served-is ∙ i.ended;
            few = rw w.served-is (omega (arith, i.few));
            events = rw w.served-is (omega (arith, i.events));
            serves = rw w.served-is (s.0 + w.in-Done.failed, s.1 ++ turn.0, on s.1 turn.0 s.2 turn.1, serves, count);
          }
      | in-Refused w ↦
          let turn = rw (w.in-Refused.is, same) at c.in-Ok.ensures.turn in
          let serves = Serves-refused has c.args.node.now c.loop.node c.serve_turn_in.new.node c.loop.served.events c.loop.served.refused s.0 s.1 turn.0 s.3 turn.2.0 in
          record {
            ended = ap (λ (s : Served). s.ended) w.served-is ∙ i.ended;
            few = rw w.served-is (omega (arith, i.few));
            events = rw w.served-is (omega (arith, i.events));
            serves = rw w.served-is (s.0, s.1 ++ turn.0, on s.1 turn.0 s.2 turn.1, serves, s.4);
          }
    ]

pub returns-in_default-clause-stopped : goal.returns-in_default-clause-stopped
returns-in_default-clause-stopped g c =
    let s = c.loop.invariant.serves in
    let f = c.in_default.ensures.stopped in (
      s.1 ++ (FailedNext ∷ []),
      g.met.P.Ports.goes_on c.args.ports.now c.loop.ports _ s.1 (FailedNext ∷ []) s.2 f.0,
      (s.1, c.loop.served.refused, s.0, rw f.1 s.3, refl, omega (arith, c.loop.invariant.events, c.loop-test.true)),
    )

pub returns-in-Unwritten-clause-stopped : goal.returns-in-Unwritten-clause-stopped
returns-in-Unwritten-clause-stopped g c =
    let s = c.loop.invariant.serves in
    let same : g.P.Ports.has_journal c.loop.ports ≡ g.P.Ports.has_journal c.args.ports.now = g.met.P.Ports.stays _ _ s.1 s.2 in
    let turn = rw (c.in-Unwritten.is, same) at c.in-Ok.ensures.turn in (
      s.1 ++ turn.0,
      g.met.P.Ports.goes_on c.args.ports.now c.loop.ports _ s.1 turn.0 s.2 turn.1,
      (c.loop.node, s.1, turn.0, c.loop.served.refused, s.0, s.3, turn.2.0, refl, omega (arith, c.loop.invariant.events, c.loop-test.true)),
    )

pub returns-in-End-clause-served : goal.returns-in-End-clause-served
returns-in-End-clause-served g c =
    let s = c.loop.invariant.serves in
    let turn = rw c.in-End.is at c.in-Ok.ensures.turn in (
      s.0,
      s.1 ++ turn.0,
      g.met.P.Ports.goes_on c.args.ports.now c.loop.ports _ s.1 turn.0 s.2 turn.1,
      (s.1, rw turn.2.0 s.3, ap (λ (t : List PortStep). s.1 ++ t) turn.2.2),
      s.4,
    )

pub returns-clause-served : goal.returns-clause-served
returns-clause-served g c =
    let s = c.loop.invariant.serves in
    (s.0, s.1, s.2, (s.1, s.3, sym (ap (λ (b : Bool). s.1 ++ end_steps b) c.loop.invariant.ended ∙ append-nil s.1)), s.4)
