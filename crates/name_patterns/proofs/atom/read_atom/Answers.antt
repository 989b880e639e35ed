use Rattle.std.proofs.Common.{Some, refl, inl}
use Rattle.std.proofs.lemmas.Result.{err_from_is_err_and}
use Rattle.name_patterns.specs.PatternReading.{◌>>=◌, test_in, repeat_in, atom_in}
use Rattle.name_patterns.proofs.Steps.{fault_on}
use Rattle.name_patterns.proofs.atom.read_atom.Goals as goal

pub returns-in_err-test-clause-read : goal.returns-in_err-test-clause-read
unfolding atom_in
returns-in_err-test-clause-read c =
    let p = err_from_is_err_and c.from_residual.result c.from_residual.ensures.1 in
    rw (p.1, p.2) (fault_on c.args.at (test_in c.args.text.now)
    (λ test. repeat_in test.rest >>= λ bounds. Some (record { part = record { test = test.part; bounds = bounds.0 }; is_inner = test.is_inner; rest = bounds.1 }))
    _ c.in_err-test.ensures.read)

pub returns-in_default-clause-read : goal.returns-in_default-clause-read
unfolding atom_in
returns-in_default-clause-read c =
    rw (c.in_ok-test.ensures.read, ← c.in_default.ensures.read) (inl refl)

pub returns-clause-read : goal.returns-clause-read
unfolding atom_in
returns-clause-read c =
    rw (c.in_ok-test.ensures.read, ← c.in-Some.ensures.read) refl
