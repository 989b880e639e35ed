use Rattle.std.proofs.Common.{◌≡◌, ℕ, List, refl, ap, subst, sym, ◌∙◌}
use lib.Dec.{T}
use Rattle.std.specs.FinMap as map
use Rattle.std.specs.FinMap.{find, from_sorted, get, get-from_sorted}
use Rattle.ndn_tlv.specs.Element.{Field}
use Rattle.ndn_names.specs.Order.{component_cmp}
use Rattle.ndn_names.specs.Key.{component_cmp-total, component_cmp-antisymmetric}
use Rattle.name_trie.specs.ByName.{revise, revised}
use Rattle.name_trie.specs.Links.{Links, unless_is}
use Rattle.name_trie.specs.Rows.{items_of}
use Rattle.name_trie.proofs.Forgotten.{others_stay, without_row}
use Rattle.name_trie.proofs.Revised.{sorted_revised, from_revised}
use Rattle.name_trie.proofs.children.Children.forget.Goals as goal
use Rattle.name_trie.proofs.children.Children.forget.Goals.{After-remove}

-- lookups in the rows and in the map return the same child
found_in : (rows : List (Field × ℕ)) (m : Links) → T (map.is_sorted component_cmp rows) → from_sorted {R = component_cmp} rows ≡ m → (k : Field) → find component_cmp k rows ≡ get m k
found_in rows m sorted is k = sym (get-from_sorted component_cmp rows k sorted) ∙ ap (λ (m : Links). get m k) is

left : (c : After-remove) → items_of c.remove.new.self ≡ revised (unless_is c.args.child) (items_of c.self.inside.rows)
left c =
    let found = rw c.as_slice.ensures at c.in-Some.ensures.found in
    let has = found_in (items_of c.self.inside.rows) c.args.self.now c.self.invariant c.self.view_is in
    c.remove.ensures
    ∙ without_row component_cmp-total component_cmp-antisymmetric c.args.child (items_of c.self.inside.rows) c.self.invariant
    (λ j k e f. c.requires j k (sym (has j) ∙ e) (sym (has k) ∙ f)) c.in-Some.at found.0 found.1

pub invariant_of-self : goal.invariant_of-self
invariant_of-self c =
    subst (λ (l : List (Field × ℕ)). T (map.is_sorted component_cmp l)) (sym (left c)) (sorted_revised component_cmp (unless_is c.args.child) (items_of c.self.inside.rows) c.self.invariant)

pub returns-in-Some : goal.returns-in-Some
returns-in-Some c =
    ap (λ (l : List (Field × ℕ)). from_sorted {R = component_cmp} l) (left c) ∙ from_revised component_cmp (unless_is c.args.child) (items_of c.self.inside.rows) c.self.invariant
    ∙ ap (λ (m : Links). revise (unless_is c.args.child) m) c.self.view_is

pub returns-in_default : goal.returns-in_default
returns-in_default c =
    let absent = rw c.as_slice.ensures at c.in_default.ensures.absent in
    sym (ap (λ (m : Links). revise (unless_is c.args.child) m) (sym c.self.view_is)
    ∙ sym (from_revised component_cmp (unless_is c.args.child) (items_of c.self.inside.rows) c.self.invariant)
    ∙ ap (λ (l : List (Field × ℕ)). from_sorted {R = component_cmp} l) (others_stay c.args.child (items_of c.self.inside.rows) (absent refl))
    ∙ c.self.view_is)
