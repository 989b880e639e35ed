use Rattle.ndn_names.specs.View.{components}
use Rattle.info_rules.proofs.KeyNames.{HasFollowing}
use Rattle.info_rules.proofs.locator.prefix_of_key.Given as goal

abbrev pub invariant-loop-following : goal.invariant-loop-following
invariant-loop-following l = HasFollowing (components l.fn.key) l.following
