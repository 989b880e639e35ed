use Rattle.std.proofs.Common.{◌∙◌, sym}
use Rattle.ndn_names.proofs.Names.{name_found, name_again, components_of-is}
use Rattle.ndn_names.proofs.name.names_have_one_reading.Goals as goal

pub returns : goal.returns
returns c = record {
  one = λ value a b p q. sym (components_of-is value a p) ∙ components_of-is value b q;
  exact = λ value cs fits. (name_found value cs fits, name_again value cs);
  shown = components_of-is;
}
