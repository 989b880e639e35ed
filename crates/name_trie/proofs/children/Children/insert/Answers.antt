use Rattle.std.proofs.Common.{◌≡◌, ℕ, get_or, ap, sym, ◌∙◌}
use Rattle.std.proofs.lemmas.List.{get_or_default}
use Rattle.std.specs.Prelude.{None, Some}
use Rattle.std.specs.FinMap as map
use Rattle.std.specs.FinMap.{put, get, get-from_sorted}
use Rattle.ndn_tlv.specs.Element.{Field}
use Rattle.ndn_names.specs.Order.{component_cmp}
use Rattle.ndn_names.specs.Key.{component_cmp-total}
use Rattle.name_trie.specs.Links.{Links}
use Rattle.name_trie.specs.Rows.{items_of}
use Rattle.ndn_names.proofs.Rows.{sorted_put, from_put}
use Rattle.name_trie.proofs.children.Children.insert.Goals as goal
use Rattle.name_trie.proofs.children.Children.insert.Goals.{In_ok-insert-in-Err}

-- the rows after the insertion are those that `put` returns for the component and the child
inserted : (c : In_ok-insert-in-Err) → items_of c.insert.new.self ≡ put component_cmp c.args.component c.args.child (items_of c.self.inside.rows)
inserted c =
    let absent = rw (c.as_slice.ensures, c.view.ensures) at c.in-Err.ensures.absent in
    c.in_ok-insert-in-Err.ensures.ok ∙ sym (absent.1 c.args.child)

-- `place_of` finds no row of the component, since the contract requires that there is no child for
-- the component
pub unreachable-requires : goal.unreachable-requires
unreachable-requires c =
    let found = rw (c.as_slice.ensures, c.view.ensures) at c.in-Ok.ensures.found in
    let rows = items_of c.self.inside.rows in
    let row : Field × ℕ = get_or rows c.in-Ok.field-0 (c.args.component, 0) in
    let hit = (found.2 row (sym (get_or_default rows c.in-Ok.field-0 row (c.args.component, 0) found.0))).1 in
    let clash : Some row.1 ≡ None =
    sym hit ∙ sym (get-from_sorted component_cmp rows c.args.component c.self.invariant) ∙ ap (λ (m : Links). get m c.args.component) c.self.view_is
    ∙ c.requires in
    cc

pub invariant_of-self : goal.invariant_of-self
invariant_of-self c = sorted_put component_cmp-total (items_of c.self.inside.rows) _ c.self.invariant c.args.component c.args.child (inserted c)

pub returns-clause-ok : goal.returns-clause-ok
returns-clause-ok c =
    from_put component_cmp-total (items_of c.self.inside.rows) _ c.self.invariant c.args.component c.args.child (inserted c)
    ∙ ap (λ (m : Links). map.insert m c.args.component c.args.child) c.self.view_is
