use Rattle.std.proofs.Common.{◌≡◌, refl}
use Rattle.std.specs.Prelude.{Ok, codes}
use Rattle.ndn_names.specs.UriReading.{component_in}
use Rattle.name_patterns.specs.PatternReading.{pattern_in, items_within, listed_within, test_in, range_in, repeat_in, atom_in, is_closed}
use Rattle.info_rules.specs.Locator.{hierarchical_pattern}
use Rattle.name_patterns.proofs.GrammarReading.{pattern_found}
use Rattle.info_rules.proofs.locator.hierarchical_text_spells_its_pattern.Goals as goal

read : pattern_in (codes "^(<>*)<KEY><>{1,3}$") ≡ Ok hierarchical_pattern
unfolding pattern_in items_within listed_within test_in range_in repeat_in atom_in is_closed component_in
read = refl

pub returns : goal.returns
returns c = pattern_found (codes "^(<>*)<KEY><>{1,3}$") hierarchical_pattern read
