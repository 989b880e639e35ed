use Rattle.journal_shortening.proofs.EmptyNodes.{on_both_empty}
use Rattle.journal_shortening.proofs.shortening.restores_same_on_empty.Goals as goal

pub returns : goal.returns
returns c = on_both_empty _ _ _ c.in_ok-node.node c.restores_same_on.new.node c.restores_same_on.result c.in_ok-node.ensures c.restores_same_on.ensures
