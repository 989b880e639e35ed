use Rattle.ndn_jobs.proofs.value.parse_uri.Goals as goal

pub returns-in_default : goal.returns-in_default
returns-in_default c = rw c.bad_value.ensures (λ name h. c.in_default.not-Memory (c.in-Err.ensures.only name h))
