use Rattle.std.proofs.Common.{ap, arith}
use Rattle.std.specs.Prelude.{Some}
use Rattle.std.specs.FinSet as set
use Rattle.name_trie.proofs.Rings.{stopped_few}
use Rattle.name_trie.proofs.timed.stop.Goals as goal

pub returns-in-Some-clause-few : goal.returns-in-Some-clause-few
returns-in-Some-clause-few c =
    omega (arith, ap set.len c.remove.ensures.timers, stopped_few c.args.key (Some c.in-Some.deadline) c.args.timers.now.timers)
