use Rattle.ndn_daemon.proofs.turns.take_logged.Goals as goal

pub returns-clause-ended : goal.returns-clause-ended
returns-clause-ended g c = rw (← c.new-logged.ensures.ports, c.finish-ports.ensures) c.take_as_asked-done-2.ensures.ended
