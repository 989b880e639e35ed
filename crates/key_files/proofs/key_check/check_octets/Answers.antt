use Rattle.std.proofs.Common.{inl, inr}
use Rattle.key_files.proofs.KeyChecks.{no_octets, unchecked}
use Rattle.key_files.proofs.key_check.check_octets.Goals as goal

pub returns-then-len-eq0 : goal.returns-then-len-eq0
returns-then-len-eq0 c =
    unchecked c.args.algorithm c.args.digits.now
    (no_octets c.args.digits.now (elim c.then-len-eq0.either [ inl none ↦ inl none | inr many ↦ inr many.1 ]))
