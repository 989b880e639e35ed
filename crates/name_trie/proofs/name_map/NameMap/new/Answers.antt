use Rattle.std.proofs.Common.{ap, sym, ◌∙◌}
use Rattle.std.specs.FinMap.{len, len-empty}
use Rattle.ndn_names.specs.Order.{name_cmp}
use Rattle.name_trie.proofs.name_map.NameMap.new.Goals as goal

pub invariant_of-result : goal.invariant_of-result
invariant_of-result g c = sym (ap len c.new.ensures.table ∙ len-empty name_cmp g.row.V.Denot)
