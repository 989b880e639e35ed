use Rattle.std.proofs.Common.{◌≡◌, ◌+◌, ◌++◌, [], List, true, false, arith, ap, append-nil, refl, sym}
use Rattle.std.proofs.lemmas.Result.{err_from_is_err_and}
use Rattle.node_ports.specs.declared.serving.Turn.TheVariants.{End}
use Rattle.node_ports.specs.Step.{PortStep}
use Rattle.ndn_daemon.proofs.Gathered.{AppendsFront-longer, Writes-cut, Writes-done, Writes-more, Writes-start, Writes-then, cut_then, done_then, stops_turns}
use Rattle.ndn_daemon.proofs.Telling.{Tells-ended, Tells-none, Tells-turn}
use Rattle.ndn_daemon.specs.Turn.{TakesTurns}
use Rattle.ndn_daemon.proofs.turns.take_turns.Goals as goal

pub loop-number-init : goal.loop-number-init
loop-number-init g c = ([], [], g.met.P.Ports.rests _, Tells-none _ c.args.node.now, Writes-start _ _ c.new-text.ensures.items, λ _. c.new-text.ensures.items)

pub returns-in_err-turn-clause-stopped : goal.returns-in_err-turn-clause-stopped
returns-in_err-turn-clause-stopped g c =
    let i = c.loop-number.invariant in
    let p = err_from_is_err_and c.from_residual.result c.from_residual.ensures.1 in
    let same : g.P.Ports.has_journal c.loop-number.ports ≡ g.P.Ports.has_journal c.args.ports.now = g.met.P.Ports.stays _ _ i.1 i.2 in
    let stopped = rw same at c.in_err-turn.ensures.stopped in
    rw (p.1, p.2)
    (i.1 ++ stopped.0, g.met.P.Ports.goes_on c.args.ports.now c.loop-number.ports c.take_turn.new.ports i.1 stopped.0 i.2 stopped.1, stops_turns _ _ _ _ _ c.loop-number.number i.1 stopped.0 _ _ _ i.0 _ _ i.3 i.4 c.loop-number-test.true stopped.2)

pub returns-then-is_end-clause-done : goal.returns-then-is_end-clause-done
returns-then-is_end-clause-done g c =
    let i = c.loop-number.invariant in
    let same : g.P.Ports.has_journal c.loop-number.ports ≡ g.P.Ports.has_journal c.args.ports.now = g.met.P.Ports.stays _ _ i.1 i.2 in
    let turn = rw same at c.in_ok-turn.ensures.turn in
    let e = Tells-ended _ _ _ _ c.loop-number.number i.1 turn.0 i.0 c.take_turn.new.outbox c.in_ok-turn.turn (c.is_end.ensures.0 c.if-is_end.true) i.3 turn.2 in
    let w = Writes-then _ _ _ i.0 _ _ i.4 c.in_ok-turn.ensures.text in
    let did = g.met.P.Ports.goes_on c.args.ports.now c.loop-number.ports c.take_turn.new.ports i.1 turn.0 i.2 turn.1 in
    done_then {B = (steps : List PortStep) × g.P.Ports.does c.args.ports.now steps c.take_turn.new.ports × TakesTurns (g.P.Ports.has_journal c.args.ports.now) c.args.node.now c.take_turn.new.node c.args.turns steps (g.W.Write.contents c.args.writer.now) (g.W.Write.contents c.write_out.new.writer)} _ c.write_out.ensures.done
    (λ all. (i.1 ++ turn.0, did, (c.loop-number.number, true, i.1, i.0, e.0, c.loop-number-test.true, ap (λ (t : List PortStep). i.1 ++ t) e.1, Writes-done _ _ _ i.0 _ w all)))

pub returns-then-is_end-clause-stopped : goal.returns-then-is_end-clause-stopped
returns-then-is_end-clause-stopped g c =
    let i = c.loop-number.invariant in
    let same : g.P.Ports.has_journal c.loop-number.ports ≡ g.P.Ports.has_journal c.args.ports.now = g.met.P.Ports.stays _ _ i.1 i.2 in
    let turn = rw same at c.in_ok-turn.ensures.turn in
    let e = Tells-ended _ _ _ _ c.loop-number.number i.1 turn.0 i.0 c.take_turn.new.outbox c.in_ok-turn.turn (c.is_end.ensures.0 c.if-is_end.true) i.3 turn.2 in
    let w = Writes-then _ _ _ i.0 _ _ i.4 c.in_ok-turn.ensures.text in
    let did = g.met.P.Ports.goes_on c.args.ports.now c.loop-number.ports c.take_turn.new.ports i.1 turn.0 i.2 turn.1 in
    cut_then _ _ c.write_out.ensures.cut c.write_out.ensures.fault
    (λ cut. (i.1 ++ turn.0, did, (c.loop-number.number, true, i.1, i.0, e.0, ap (λ (t : List PortStep). i.1 ++ t) e.1, omega (arith, c.loop-number-test.true), Writes-cut _ _ _ i.0 _ w cut)))

pub returns-in_err-write_out-clause-stopped : goal.returns-in_err-write_out-clause-stopped
returns-in_err-write_out-clause-stopped g c =
    let i = c.loop-number.invariant in
    let same : g.P.Ports.has_journal c.loop-number.ports ≡ g.P.Ports.has_journal c.args.ports.now = g.met.P.Ports.stays _ _ i.1 i.2 in
    let turn = rw same at c.in_ok-turn.ensures.turn in
    let goes_on : c.in_ok-turn.turn ≡ End → ⊥ = λ is. let t = c.is_end.ensures.1 is in cc (t, c.if-is_end.false) in
    let told = Tells-turn _ _ _ _ c.loop-number.number i.1 turn.0 i.0 c.take_turn.new.outbox c.rules.result.now c.in_ok-turn.turn goes_on c.in_ok-turn.ensures.written i.3 turn.2 c.rules.ensures.exact in
    let did = g.met.P.Ports.goes_on c.args.ports.now c.loop-number.ports c.take_turn.new.ports i.1 turn.0 i.2 turn.1 in
    let w = Writes-then _ _ _ i.0 _ _ i.4 c.in_ok-turn.ensures.text in
    let cut = rw c.in-Err.ensures.err at c.in_err-write_out.ensures.cut in
    let p = err_from_is_err_and c.from_residual-in_err-write_out.result c.from_residual-in_err-write_out.ensures.1 in
    rw (p.1, p.2, c.in_err-write_out.ensures.fault)
    (i.1 ++ turn.0, did, (c.loop-number.number + 1, false, i.1 ++ turn.0, _, told, sym (append-nil (i.1 ++ turn.0)), omega (arith, c.loop-number-test.true), AppendsFront-longer _ _ i.0 _ (Writes-cut _ _ _ i.0 _ w cut)))

pub returns-in-Err-clause-stopped : goal.returns-in-Err-clause-stopped
returns-in-Err-clause-stopped g c =
    let i = c.loop-number.invariant in
    let same : g.P.Ports.has_journal c.loop-number.ports ≡ g.P.Ports.has_journal c.args.ports.now = g.met.P.Ports.stays _ _ i.1 i.2 in
    let turn = rw same at c.in_ok-turn.ensures.turn in
    let goes_on : c.in_ok-turn.turn ≡ End → ⊥ = λ is. let t = c.is_end.ensures.1 is in cc (t, c.if-is_end.false) in
    let told = Tells-turn _ _ _ _ c.loop-number.number i.1 turn.0 i.0 c.take_turn.new.outbox c.rules.result.now c.in_ok-turn.turn goes_on c.in_ok-turn.ensures.written i.3 turn.2 c.rules.ensures.exact in
    let did = g.met.P.Ports.goes_on c.args.ports.now c.loop-number.ports c.take_turn.new.ports i.1 turn.0 i.2 turn.1 in
    let w = Writes-then _ _ _ i.0 _ _ i.4 c.in_ok-turn.ensures.text in
    let all = rw c.in-Err.ensures.err at c.in_ok-write_out.ensures.done in
    rw c.in-Err.ensures.fault
    (i.1 ++ turn.0, did, (c.loop-number.node, c.loop-number.number, i.1, turn.0, i.0, _, i.3, told, refl, c.loop-number-test.true, Writes-done _ _ _ i.0 _ w all))

pub returns-in_err-write_long-clause-stopped : goal.returns-in_err-write_long-clause-stopped
returns-in_err-write_long-clause-stopped g c =
    let i = c.loop-number.invariant in
    let same : g.P.Ports.has_journal c.loop-number.ports ≡ g.P.Ports.has_journal c.args.ports.now = g.met.P.Ports.stays _ _ i.1 i.2 in
    let turn = rw same at c.in_ok-turn.ensures.turn in
    let goes_on : c.in_ok-turn.turn ≡ End → ⊥ = λ is. let t = c.is_end.ensures.1 is in cc (t, c.if-is_end.false) in
    let told = Tells-turn _ _ _ _ c.loop-number.number i.1 turn.0 i.0 c.take_turn.new.outbox c.rules.result.now c.in_ok-turn.turn goes_on c.in_ok-turn.ensures.written i.3 turn.2 c.rules.ensures.exact in
    let did = g.met.P.Ports.goes_on c.args.ports.now c.loop-number.ports c.take_turn.new.ports i.1 turn.0 i.2 turn.1 in
    let w = Writes-more _ _ i.0 _ _ (Writes-then _ _ _ i.0 _ _ i.4 c.in_ok-turn.ensures.text) in
    let cut = rw c.in_default.ensures.ok at c.in_err-write_long.ensures.cut in
    let p = err_from_is_err_and c.from_residual-in_err-write_long.result c.from_residual-in_err-write_long.ensures.1 in
    rw (p.1, p.2, c.in_err-write_long.ensures.fault)
    (i.1 ++ turn.0, did, (c.loop-number.number + 1, false, i.1 ++ turn.0, _, told, sym (append-nil (i.1 ++ turn.0)), omega (arith, c.loop-number-test.true), Writes-cut _ _ _ _ _ w cut))

pub loop-number-preserved : goal.loop-number-preserved
loop-number-preserved g c =
    let i = c.loop-number.invariant in
    let same : g.P.Ports.has_journal c.loop-number.ports ≡ g.P.Ports.has_journal c.args.ports.now = g.met.P.Ports.stays _ _ i.1 i.2 in
    let turn = rw same at c.in_ok-turn.ensures.turn in
    let goes_on : c.in_ok-turn.turn ≡ End → ⊥ = λ is. let t = c.is_end.ensures.1 is in cc (t, c.if-is_end.false) in
    let told = Tells-turn _ _ _ _ c.loop-number.number i.1 turn.0 i.0 c.take_turn.new.outbox c.rules.result.now c.in_ok-turn.turn goes_on c.in_ok-turn.ensures.written i.3 turn.2 c.rules.ensures.exact in
    let did = g.met.P.Ports.goes_on c.args.ports.now c.loop-number.ports c.take_turn.new.ports i.1 turn.0 i.2 turn.1 in
    let w = Writes-more _ _ i.0 _ _ (Writes-then _ _ _ i.0 _ _ i.4 c.in_ok-turn.ensures.text) in
    let more = rw c.in_default.ensures.ok at c.in_ok-write_long.ensures.done in
    (_, i.1 ++ turn.0, did, told, Writes-then _ _ _ _ _ _ w more, λ none. absurd (omega (arith, none)))

pub returns-clause-done : goal.returns-clause-done
returns-clause-done g c =
    let i = c.loop-number.invariant in
    done_then {B = (steps : List PortStep) × g.P.Ports.does c.args.ports.now steps c.loop-number.ports × TakesTurns (g.P.Ports.has_journal c.args.ports.now) c.args.node.now c.loop-number.node c.args.turns steps (g.W.Write.contents c.args.writer.now) (g.W.Write.contents c.write_out-2.new.writer)} _ c.write_out-2.ensures.done
    (λ all. (i.1, i.2, (c.loop-number.number, false, i.1, i.0, i.3, omega arith, sym (append-nil i.1), Writes-done _ _ _ i.0 _ i.4 all)))

pub returns-clause-stopped : goal.returns-clause-stopped
returns-clause-stopped g c =
    let i = c.loop-number.invariant in
    cut_then _ _ c.write_out-2.ensures.cut c.write_out-2.ensures.fault
    (λ cut. (i.1, i.2, (c.loop-number.number, false, i.1, i.0, i.3, sym (append-nil i.1), omega arith, Writes-cut _ _ _ i.0 _ i.4 cut)))

pub returns-clause-none : goal.returns-clause-none
returns-clause-none g c = λ none.
    let first : c.loop-number.number ≡ 0 = omega (arith, none) in
    c.write_out-2.ensures.none (c.loop-number.invariant.5 first)
