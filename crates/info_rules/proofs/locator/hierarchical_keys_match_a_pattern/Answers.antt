use Rattle.info_rules.proofs.Hierarchies.{hierarchical_matches, matches_hierarchical}
use Rattle.info_rules.proofs.locator.hierarchical_keys_match_a_pattern.Goals as goal

pub returns : goal.returns
returns c = λ key packet. (hierarchical_matches key packet, λ h. matches_hierarchical key packet h.0 h.1 h.2)
