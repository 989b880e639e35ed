use Rattle.interest_pipeline.proofs.Halving.{not_lower, once}
use Rattle.interest_pipeline.proofs.law.the_window_is_halved_once_for_a_window_of_segments.Goals as goal

pub returns-clause-others : goal.returns-clause-others
returns-clause-others c = not_lower

pub returns-clause-once : goal.returns-clause-once
returns-clause-once c = once
