use Rattle.info_rules.proofs.TreeFinding.{read_found, read_only}
use Rattle.info_rules.proofs.tree.InfoTree.read.Goals as goal

pub returns-clause-found : goal.returns-clause-found
returns-clause-found c = read_found c.args.text.now c.read_tree.result c.read_tree.ensures

pub returns-clause-only : goal.returns-clause-only
returns-clause-only c = read_only c.args.text.now c.read_tree.result c.read_tree.ensures
