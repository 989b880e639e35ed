use Rattle.ndn_names.specs.View.{components}
use Rattle.info_rules.proofs.Relations.{matched}
use Rattle.info_rules.proofs.matching.passes.Goals as goal

pub returns-in-Matching : goal.returns-in-Matching
returns-in-Matching c = rw c.in-Matching.is (matched c.in-Matching.pattern (components c.args.name) c.matches.result c.is_some.result c.is_some.ensures c.matches.ensures.found c.matches.ensures.none)
