use Rattle.ndn_daemon.proofs.Logging.{count_grows, grows_then}
use Rattle.ndn_daemon.proofs.event_log.EventLog.put_counts.Goals as goal

pub returns-then-abs_diff-ge-COUNT_MILLISECONDS-clause-grows : goal.returns-then-abs_diff-ge-COUNT_MILLISECONDS-clause-grows
returns-then-abs_diff-ge-COUNT_MILLISECONDS-clause-grows g c =
    let s = c.put_counts_now.ensures.says in
    grows_then _ s.0 _ (count_grows _ _ _ _ _ _ s.2) (grows_then s.0 s.1 _ (count_grows _ _ _ _ _ _ s.3) (count_grows _ _ _ _ _ _ s.4))
