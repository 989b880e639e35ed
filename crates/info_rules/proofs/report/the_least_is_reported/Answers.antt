use Rattle.info_rules.proofs.Least.{least_of}
use Rattle.info_rules.proofs.report.the_least_is_reported.Goals as goal

pub returns : goal.returns
returns c = least_of
