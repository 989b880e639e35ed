use Rattle.std.proofs.Common.{ℕ, ap, sym, ◌∙◌}
use Rattle.std.specs.Prelude.{Some}
use Rattle.ndn_tlv.specs.Element.{Field}
use Rattle.ndn_names.specs.Order.{component_cmp}
use Rattle.ndn_names.specs.View.{field_of}
use Rattle.std.specs.FinMap.{get, get-from_sorted}
use Rattle.name_trie.specs.Rows.{items_of}
use Rattle.name_trie.proofs.children.Children.get.Goals as goal

pub returns-in-Ok : goal.returns-in-Ok
returns-in-Ok c =
    let found = rw c.as_slice-rows.ensures at c.in-Ok.ensures.found in
    sym (ap (λ m. get m (field_of c.args.component)) (sym c.self.view_is) ∙ get-from_sorted component_cmp (items_of c.self.inside.rows) (field_of c.args.component) c.self.invariant ∙ (found.2 c.index-rows-at.result (rw c.as_slice-rows.ensures at c.index-rows-at.is)).1 ∙ ap (λ (r : Field × ℕ). Some r.1) c.index-rows-at.is)

pub returns-in-Err : goal.returns-in-Err
returns-in-Err c =
    let absent = rw c.as_slice-rows.ensures at c.in-Err.ensures.absent in
    sym (ap (λ m. get m (field_of c.args.component)) (sym c.self.view_is) ∙ get-from_sorted component_cmp (items_of c.self.inside.rows) (field_of c.args.component) c.self.invariant ∙ absent.2)
