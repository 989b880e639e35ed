use Rattle.std.proofs.Common.{Option, IsTrue, subst}
use Rattle.net_ports.specs.Holdings.{IsBusyOf}
use Rattle.net_ports.specs.declared.faces.ConnectedFace.{ConnectedFace}
use Rattle.net_ports.proofs.faces.is_busy.Goals as goal

pub returns-in-Some : goal.returns-in-Some
returns-in-Some c =
    let busy = c.is_busy.result in
    let goes = λ (found : Option ConnectedFace). (IsTrue busy → IsBusyOf found) × (IsBusyOf found → IsTrue busy) in
    subst goes c.in-Some.ensures c.is_busy.ensures
