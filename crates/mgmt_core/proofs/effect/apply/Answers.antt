use Rattle.std.proofs.Common.{refl}
use Rattle.mgmt_core.proofs.effect.apply.Goals as goal
use Rattle.mgmt_core.proofs.effect.apply.Goals.{in-AddNexthop+in_ok-add_nexthop-in-AddNexthop, in-RemoveNexthop, in-Register+in_ok-register-in-Register, in-Unregister, in-SetStrategy+in_ok-set_strategy-in-SetStrategy, in-UnsetStrategy, in-EraseCache}

pub returns-clause-cached : goal.returns-clause-cached
returns-clause-cached c =
    elim c.match-command.branch [
      | in-AddNexthop+in_ok-add_nexthop-in-AddNexthop w ↦ rw w.in-AddNexthop.is (rw w.tables-is refl)
      | in-RemoveNexthop w ↦ rw w.in-RemoveNexthop.is (rw w.tables-is refl)
      | in-Register+in_ok-register-in-Register w ↦ rw w.in-Register.is (rw w.tables-is refl)
      | in-Unregister w ↦ rw w.in-Unregister.is (rw w.tables-is refl)
      | in-SetStrategy+in_ok-set_strategy-in-SetStrategy w ↦ rw w.in-SetStrategy.is (rw w.tables-is refl)
      | in-UnsetStrategy w ↦ rw w.in-UnsetStrategy.is (rw w.tables-is refl)
      | in-EraseCache w ↦ rw w.in-EraseCache.is (rw w.tables-is (w.erase.result, w.erase.ensures.erased))
    ]
