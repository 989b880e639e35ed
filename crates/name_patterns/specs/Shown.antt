-- Private types as plain data.
use Rattle.std.specs.Prelude.{map}
use Rattle.ndn_tlv.specs.Element.{Field}
use Rattle.name_patterns.specs.declared.text.Text.{Text}
use Rattle.name_patterns.specs.declared.component_test.Choice.{Choice}
use Rattle.name_patterns.specs.declared.component_test.Choice.TheVariants as choices
use Rattle.name_patterns.specs.declared.component_test.Test.{Test}
use Rattle.name_patterns.specs.declared.repeat.Repeat.{Repeat}
use Rattle.name_patterns.specs.declared.draft.Draft.{Draft}
use Rattle.name_patterns.specs.declared.atom.Atom.{Atom}
use Rattle.name_patterns.specs.declared.template.Part.{Part}
use Rattle.name_patterns.specs.declared.template.Part.TheVariants as parts
use Rattle.name_patterns.specs.Pattern.{PlainTest, Anything, OneOf, NoneOf, Bounds, PlainAtom}
use Rattle.name_patterns.specs.PatternReading.{PlainDraft}
use Rattle.name_patterns.specs.Template.{PlainPart, OfGroup, Single}

abbrev pub field_of : Text → Field
field_of text = (text.kind, text.value.items)

abbrev pub test_of_choice : Choice → PlainTest
test_of_choice choices.Anything = Anything
test_of_choice (choices.OneOf texts) = OneOf (map field_of texts.items)
test_of_choice (choices.NoneOf texts) = NoneOf (map field_of texts.items)

abbrev pub test_of : Test → PlainTest
test_of test = test_of_choice test.choice

abbrev pub bounds_of : Repeat → Bounds
bounds_of repeat = record { least = repeat.least; most = repeat.most }

abbrev pub atom_of : Atom → PlainAtom
atom_of atom = record { test = test_of atom.test; bounds = bounds_of atom.repeat }

abbrev pub part_of : Part → PlainPart
part_of (parts.Group n) = OfGroup n
part_of (parts.Single text) = Single (field_of text)

abbrev pub draft_of : Draft → PlainDraft
draft_of draft = record {
  atoms = map atom_of draft.atoms.items;
  written = draft.written;
  groups = draft.groups.items;
  open_group = draft.open_group;
}
