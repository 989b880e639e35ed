use Rattle.std.proofs.Common.{◌≡◌, [], ◌∙◌, refl}
use Rattle.ndn_daemon.proofs.turns.next_turn.Goals as goal

pub returns-in-Ok-clause-turn : goal.returns-in-Ok-clause-turn
returns-in-Ok-clause-turn g c =
    let q = c.turn_soon.ensures.none c.in_default.is in
    let same : g.P.Ports.has_journal c.turn_soon.new.ports ≡ g.P.Ports.has_journal c.args.ports.now = g.met.P.Ports.stays _ _ [] q.0 in
    let turn = rw (same, q.1) at c.in-Ok.ensures.turn in
    (turn.0, g.met.P.Ports.goes_on c.args.ports.now c.turn_soon.new.ports c.serve_turn_in.new.ports [] turn.0 q.0 turn.1, turn.2)

pub returns-in-Err-clause-stopped : goal.returns-in-Err-clause-stopped
returns-in-Err-clause-stopped g c =
    let q = c.turn_soon.ensures.none c.in_default.is in
    let stopped = c.in-Err.ensures.stopped in
    (_, g.met.P.Ports.goes_on c.args.ports.now c.turn_soon.new.ports c.serve_turn_in.new.ports [] _ q.0 stopped.0, (stopped.1 ∙ q.1, refl, c.in_ok-write_out.ensures.done))
