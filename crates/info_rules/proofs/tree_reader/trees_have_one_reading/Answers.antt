use Rattle.info_rules.proofs.TreeFinding.{tree_found, tree_again, one_tree}
use Rattle.info_rules.proofs.tree_reader.trees_have_one_reading.Goals as goal

pub returns : goal.returns
returns c = record {
  exact = λ text entries. (tree_found text entries, tree_again text entries);
  one = one_tree;
}
