use Rattle.std.proofs.Common.{arith, ap, sym, ◌∙◌}
use Rattle.std.specs.FinSet as set
use Rattle.name_trie.specs.Timed.{started, stopped}
use Rattle.name_trie.proofs.Rings.{restarted, some_timer, same_option, no_more}
use Rattle.name_trie.proofs.timed.retime.Goals as goal

pub returns-then-eq-clause-timers : goal.returns-then-eq-clause-timers
returns-then-eq-clause-timers c =
    let same = same_option c.args.old c.args.new (sym c.eq.ensures ∙ c.if-eq.true) in
    sym (ap (λ o. started c.args.key o (stopped c.args.key c.args.old c.args.timers.now.timers)) (sym same) ∙ restarted c.args.key c.args.old c.args.timers.now.timers c.requires.there)

pub start-requires : goal.start-requires
start-requires c = λ some.
    let old = some_timer c.args.old (c.requires.had some) in
    c.stop.ensures.room old.0 old.1 (c.requires.there old.0 old.1)

pub returns-clause-few : goal.returns-clause-few
returns-clause-few c =
    let all = c.start.ensures.timers ∙ ap (started c.args.key c.args.new) c.stop.ensures.timers in
    omega (arith, ap set.len all, no_more c.args.key c.args.old c.args.new c.args.timers.now.timers c.requires.had c.requires.there)
