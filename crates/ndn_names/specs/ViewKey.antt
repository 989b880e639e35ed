-- Borrowed names and components as keys of maps. The comparison and the hash of names and
-- components depend only on the types and values of the components.
use Rattle.std.specs.Prelude.{◌≡◌, true, ◌++◌}
use mathlib.Core.Path.{ap}
use Rattle.std.specs.declared.cmp.Ordering.{Ordering}
use Rattle.std.specs.Cmp.{IsTotalOrder, on_total, Equal-is}
use Rattle.std.specs.Hash.{HashWrites, slice, u8, u16}
use Rattle.std.specs.Ordering.{on, eq_by_cmp}
use Rattle.ndn_tlv.specs.Element.{Field}
use Rattle.ndn_names.specs.declared.component.Component.{Component}
use Rattle.ndn_names.specs.declared.name.Name.{Name}
use Rattle.ndn_names.specs.Order.{component_cmp, name_cmp}
use Rattle.ndn_names.specs.Key.{component_cmp-total, component_cmp-antisymmetric, name_cmp-total, name_writes, name_writes-alike}
use Rattle.ndn_names.specs.View.{field_of, components}

-- borrowed names compare in the canonical order of names
abbrev pub view_cmp : Name → Name → Ordering
view_cmp = on components name_cmp

pub view_cmp-total : IsTotalOrder view_cmp
view_cmp-total = on_total components name_cmp-total

abbrev pub view_writes : Name → HashWrites
view_writes name = name_writes (components name)

pub view_writes-alike : (a b : Name) → eq_by_cmp view_cmp a b ≡ true
    → view_writes a ≡ view_writes b
view_writes-alike a b e = name_writes-alike (components a) (components b) e

-- borrowed components compare by type, then length, then octets
abbrev pub component_view_cmp : Component → Component → Ordering
component_view_cmp = on field_of component_cmp

pub component_view_cmp-total : IsTotalOrder component_view_cmp
component_view_cmp-total = on_total field_of component_cmp-total

-- what a component writes to a hasher: its type and the octets of its value
abbrev pub component_writes : Field → HashWrites
component_writes c = u16 c.0 ++ slice u8 c.1

abbrev pub component_view_writes : Component → HashWrites
component_view_writes c = component_writes (field_of c)

pub component_view_writes-alike : (a b : Component) → eq_by_cmp component_view_cmp a b ≡ true
    → component_view_writes a ≡ component_view_writes b
component_view_writes-alike a b e =
    let tie = (Equal-is (component_view_cmp a b)).0 e in
    ap component_writes (component_cmp-antisymmetric (field_of a) (field_of b) tie)
