use Rattle.journal.proofs.Chosen.{idle_event, one_choice}
use Rattle.journal.proofs.law.other_events_bring_their_moments.Goals as goal

pub returns-clause-decided : goal.returns-clause-decided
returns-clause-decided c = one_choice

pub returns-clause-nothing : goal.returns-clause-nothing
returns-clause-nothing c = idle_event
