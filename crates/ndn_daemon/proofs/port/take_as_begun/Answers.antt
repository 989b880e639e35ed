use Rattle.std.proofs.Common.{◌⊎◌, inl, inr, refl}
use Rattle.std.specs.Prelude.{None}
use Rattle.ndn_daemon.proofs.port.take_as_begun.Goals as goal

pub returns-in_err-journal-in-Some-clause-restored : goal.returns-in_err-journal-in-Some-clause-restored
returns-in_err-journal-in-Some-clause-restored g c = λ some.
    (c.args.ports, c.args.source, None, None, None, None, inr (refl, g.met.S.RuleSource.rests _, refl, c.from_residual.ensures.0, inl refl))

-- the first case without its second part
first_part : {A B C : Type 0} → (A × B) ⊎ C → A ⊎ C
first_part (inl h) = inl h.0
first_part (inr h) = inr h

pub returns-in_ok-journal-in-Some-clause-restored : goal.returns-in_ok-journal-in-Some-clause-restored
returns-in_ok-journal-in-Some-clause-restored g c = λ some. (_, _, _, _, _, _, first_part c.run_restored-ran.ensures)
