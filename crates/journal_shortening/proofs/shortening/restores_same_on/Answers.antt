use Rattle.journal_shortening.proofs.EmptyNodes.{on_empty}
use Rattle.journal_shortening.proofs.shortening.restores_same_on.Goals as goal

pub returns : goal.returns
returns c = on_empty _ _ _ c.args.node.now c.restores_same_tables.new.a c.in_ok-other.other c.restores_same_tables.new.b c.restores_same_tables.result c.in_ok-other.ensures c.restores_same_tables.ensures
