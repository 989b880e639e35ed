use Rattle.std.proofs.Common.{ap, sym, ◌∙◌, eqb, length}
use Rattle.std.specs.FinMap.{len}
use Rattle.ndn_names.specs.Order.{component_cmp}
use Rattle.ndn_names.proofs.Rows.{len-from_sorted}
use Rattle.name_trie.specs.Rows.{items_of}
use Rattle.name_trie.proofs.children.Children.is_empty.Goals as goal

pub returns : goal.returns
returns c =
    c.is_empty.ensures
    ∙ ap (λ n. eqb n 0) (ap length c.as_slice.ensures ∙ sym (len-from_sorted component_cmp (items_of c.self.inside.rows) c.self.invariant) ∙ ap len c.self.view_is)
