use Rattle.ndn_daemon.proofs.options.repo_of.Goals as goal

pub returns-in_default : goal.returns-in_default
returns-in_default c = λ name h. c.in_default.not-Memory (c.in-Err.ensures.only name h)
