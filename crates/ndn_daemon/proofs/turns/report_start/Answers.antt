use Rattle.std.proofs.Common.{[], inr, refl}
use Rattle.node_core.proofs.Known.{Appends-start}
use Rattle.ndn_daemon.proofs.turns.report_start.Goals as goal

pub returns-then-eq : goal.returns-then-eq
returns-then-eq g c = ([], Appends-start _, inr refl)
