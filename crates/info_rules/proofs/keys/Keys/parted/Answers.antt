use Rattle.std.proofs.Common.{◌≡◌, [], eq-eqb, drop, map}
use Rattle.std.proofs.lemmas.Bool.{ne_eqb}
use Rattle.info_rules.specs.Shown.{entry_of}
use Rattle.info_rules.specs.Tree.{parted}
use Rattle.info_rules.proofs.Parted.{lack_more, begins_at, past_front, past_all, no_front}
use Rattle.info_rules.proofs.keys.Keys.parted.Goals as goal
use Rattle.info_rules.proofs.keys.Keys.parted.Goals.{After-split_at}

none_before : (c : After-split_at) → (parted c.args.self.depth (map entry_of (drop c.loop-i.i c.args.self.entries.now))).0 ≡ []
none_before c =
    begins_at c.args.self.depth c.args.self.entries.now c.loop-i.i c.entry-item.result c.loop-i-test.true c.entry-item.is (eq-eqb c.entry-item.result.depth c.args.self.depth c.if-entry-self.true)

pub returns-then-entry-self-clause-parted : goal.returns-then-entry-self-clause-parted
returns-then-entry-self-clause-parted c =
    rw (c.split_at.ensures.front, c.split_at.ensures.back)
    (past_front c.args.self.depth c.args.self.entries.now c.loop-i.i (none_before (goal.at.returns-then-entry-self-clause-parted c).After-split_at) c.loop-i.invariant)

pub returns-then-entry-self-clause-front : goal.returns-then-entry-self-clause-front
returns-then-entry-self-clause-front c = rw c.split_at.ensures.back (none_before (goal.at.returns-then-entry-self-clause-front c).After-split_at)

pub loop-i-preserved : goal.loop-i-preserved
loop-i-preserved c =
    lack_more c.args.self.depth c.args.self.entries.now c.loop-i.i c.entry-item.result c.loop-i-test.true c.entry-item.is
    (ne_eqb c.entry-item.result.depth c.args.self.depth c.if-entry-self.false) c.loop-i.invariant

pub returns-clause-parted : goal.returns-clause-parted
returns-clause-parted c = past_all c.args.self.depth c.args.self.entries.now c.loop-i.i c.loop-i-test.false c.loop-i.invariant

pub returns-clause-front : goal.returns-clause-front
returns-clause-front c = no_front c.args.self.depth
