use Rattle.std.proofs.Common.{◌≡◌}
use Rattle.std.specs.Prelude.{map}
use Rattle.name_trie.specs.ByName.{revised}
use Rattle.pit_fib.specs.Effective.{entry_listed}
use Rattle.pit_fib.specs.Fib.{entry_left_at, left_at}
use Rattle.pit_fib.proofs.fib.Fib.list.Given as goal

abbrev pub invariant-loop-name : goal.invariant-loop-name
invariant-loop-name l =
    l.list.items ≡ map (entry_listed (left_at l.fn.now l.fn.self.table)) (revised (entry_left_at l.fn.now) (map (λ r. (r.0, r.1.now)) l.yielded))
