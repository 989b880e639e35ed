use Rattle.ndn_log.proofs.Following.{follows_first, follows_later, follows_more, shows_as_said}
use Rattle.ndn_log.proofs.limits.limits_follow_what_came.Goals as goal

pub returns-clause-first : goal.returns-clause-first
returns-clause-first c = follows_first

pub returns-clause-later : goal.returns-clause-later
returns-clause-later c = follows_later

pub returns-clause-more : goal.returns-clause-more
returns-clause-more c = follows_more

pub returns-clause-shown : goal.returns-clause-shown
returns-clause-shown c = shows_as_said
