use Rattle.ndn_segments.proofs.Assembled.{written_of, assembled, accepted_came}
use Rattle.ndn_segments.proofs.Runs.{stands}
use Rattle.ndn_segments.proofs.law.only_accepted_segments_are_written.Goals as goal

pub returns-clause-so_far : goal.returns-clause-so_far
returns-clause-so_far c = λ stem limit window received. written_of _ _ _ (stands stem limit window received)

pub returns-clause-finished : goal.returns-clause-finished
returns-clause-finished c = λ stem limit window received finished. assembled _ _ _ (stands stem limit window received) finished

pub returns-clause-accepted : goal.returns-clause-accepted
returns-clause-accepted c = accepted_came
