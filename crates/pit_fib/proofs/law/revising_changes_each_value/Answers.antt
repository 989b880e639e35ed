use Rattle.std.specs.FinMap.{nat_cmp-IsAntisymmetric}
use Rattle.name_trie.proofs.Revised.{get-revise}
use Rattle.pit_fib.proofs.law.revising_changes_each_value.Goals as goal

pub returns : goal.returns
returns g c = get-revise nat_cmp-IsAntisymmetric
