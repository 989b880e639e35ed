use Rattle.std.proofs.Common.{inl}
use Rattle.net_ports.proofs.faces.ConnectedFace.is_busy.Goals as goal

pub returns-then-may_go_on : goal.returns-then-may_go_on
returns-then-may_go_on c = (λ may. inl (c.may_go_on.ensures.0 may), λ busy. c.if-may_go_on.true)
