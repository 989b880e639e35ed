use Rattle.info_rules.proofs.FileMeanings.{read_found, read_only}
use Rattle.info_rules.proofs.rules.Rules.read.Goals as goal

pub returns-clause-found : goal.returns-clause-found
returns-clause-found c = read_found c.args.tree.now c.read_file.result c.read_file.ensures

pub returns-clause-only : goal.returns-clause-only
returns-clause-only c = read_only c.args.tree.now c.read_file.result c.read_file.ensures
