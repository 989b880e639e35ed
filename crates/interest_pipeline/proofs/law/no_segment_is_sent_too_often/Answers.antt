use Rattle.interest_pipeline.proofs.GivingUp.{given_up_sent}
use Rattle.interest_pipeline.proofs.Runs.{next_is_sendable, sent_count}
use Rattle.interest_pipeline.proofs.law.no_segment_is_sent_too_often.Goals as goal

pub returns-clause-wanted : goal.returns-clause-wanted
returns-clause-wanted c limit retries n calls is = (next_is_sendable limit retries n calls is).0

pub returns-clause-unanswered : goal.returns-clause-unanswered
returns-clause-unanswered c limit retries n calls is = (next_is_sendable limit retries n calls is).1

pub returns-clause-count : goal.returns-clause-count
returns-clause-count c = sent_count

pub returns-clause-gave_up : goal.returns-clause-gave_up
returns-clause-gave_up c = given_up_sent
