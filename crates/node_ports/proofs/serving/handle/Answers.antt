use Rattle.std.proofs.Common.{List, [], append-nil, subst}
use Rattle.node_ports.specs.Step.{PortStep}
use Rattle.node_ports.proofs.serving.handle.Goals as goal

pub returns : goal.returns
returns g c =
    let t = c.answer-turn.ensures in
    let all = g.met.P.Ports.goes_on c.args.ports.now c.answer-turn.new.ports c.note.new.self t.0 [] t.1 c.note.ensures in
    (t.0, subst (λ (steps : List PortStep). g.P.Ports.does c.args.ports.now steps c.note.new.self) (append-nil t.0) all, t.2)
