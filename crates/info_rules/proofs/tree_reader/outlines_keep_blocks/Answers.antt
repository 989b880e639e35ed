use Rattle.info_rules.proofs.Outlines.{blocks_kept}
use Rattle.info_rules.proofs.tree_reader.outlines_keep_blocks.Goals as goal

pub returns : goal.returns
returns c = blocks_kept
