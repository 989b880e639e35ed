use Rattle.ndn_names.specs.Order.{component_cmp}
use Rattle.ndn_names.proofs.Rows.{from_none}
use Rattle.name_trie.proofs.children.Children.new.Goals as goal

pub returns : goal.returns
returns c = from_none component_cmp
