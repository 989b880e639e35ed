use Rattle.std.proofs.Common.{ap, sym, ◌∙◌}
use Rattle.ndn_names.specs.Order.{component_cmp}
use Rattle.name_trie.specs.Links.{Links}
use Rattle.name_trie.specs.Rows.{items_of}
use Rattle.std.specs.FinMap.{entries, entries-from_sorted}
use Rattle.name_trie.proofs.children.Children.rows.Goals as goal

pub returns : goal.returns
returns c =
    c.as_slice.ensures ∙ sym (entries-from_sorted component_cmp (items_of c.self.inside.rows) c.self.invariant)
    ∙ ap (λ (m : Links). entries m) c.self.view_is
