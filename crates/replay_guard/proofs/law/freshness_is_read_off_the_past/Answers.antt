use Rattle.replay_guard.proofs.Past.{fresh_by_table}
use Rattle.replay_guard.proofs.law.freshness_is_read_off_the_past.Goals as goal

pub returns : goal.returns
returns c = fresh_by_table
