-- Names and components as plain data.
use Rattle.std.specs.Prelude.{List}
use Rattle.ndn_tlv.specs.Element.{Field}
use Rattle.ndn_names.specs.declared.component.Component.{Component}
use Rattle.ndn_names.specs.declared.components.Components.{Components}
use Rattle.ndn_names.specs.declared.name.Name.{Name}
use Rattle.ndn_names.specs.Name.{components_of}

-- the type and the value of a component
abbrev pub field_of : Component → Field
field_of c = (c.kind, c.value.now)

-- the components of a name
abbrev pub components : Name → List Field
components name = components_of name.octets.now

-- the components that an iterator has not returned yet
abbrev pub components_left : Components → List Field
components_left it = components_of it.rest.now
