use Rattle.std.proofs.Common.{sym, subst}
use Rattle.tables_conformance.proofs.PendingRoom.{AreBelow}
use Rattle.tables_conformance.proofs.pending.Table.prepare.Goals as goal

pub invariant_of-self : goal.invariant_of-self
invariant_of-self c = subst AreBelow (sym c.prepare.ensures.pending) c.self.invariant
