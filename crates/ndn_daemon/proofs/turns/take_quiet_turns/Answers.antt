use Rattle.ndn_daemon.proofs.turns.take_quiet_turns.Goals as goal

pub returns-in-Ok-clause-done : goal.returns-in-Ok-clause-done
returns-in-Ok-clause-done g c =
    let served = c.in-Ok.field-0 in
    let s = c.in-Ok.ensures.served in
    (s.1, s.2, (served.events, served.refused, s.0, served.ended, s.3, c.in-Ok.ensures.ended))
