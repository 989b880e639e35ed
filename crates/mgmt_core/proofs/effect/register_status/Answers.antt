use Rattle.std.proofs.Common.{sym, ◌∙◌}
use Rattle.mgmt_core.proofs.OpenFaces.{has_room}
use Rattle.mgmt_core.proofs.effect.register_status.Goals as goal

pub returns-clause-room : goal.returns-clause-room
returns-clause-room c = λ done.
    let is_up = c.if-not-is_up.false in
    has_room c.args.fib.now.table c.args.face c.args.up.now (c.is_up.ensures.small is_up) (c.is_up.ensures.rising is_up) (sym c.is_up.ensures.exact ∙ is_up) c.requires
