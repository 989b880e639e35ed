use Rattle.ndn_client.proofs.download.stem_of.Goals as goal

pub returns-in_err-stem : goal.returns-in_err-stem
returns-in_err-stem c = rw c.from_residual.ensures (λ stem h. c.in_err-stem.ensures stem h.segment)
