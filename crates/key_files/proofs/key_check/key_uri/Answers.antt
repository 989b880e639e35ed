use Rattle.std.proofs.Common.{Bool, Some, sym, subst, ◌∙◌}
use Rattle.key_files.proofs.KeyChecks.{Checked, some_key}
use Rattle.key_files.proofs.key_check.key_uri.Goals as goal

pub returns-in-Some-true : goal.returns-in-Some-true
returns-in-Some-true c =
    some_key c.args.number c.args.line.now c.in-Some.uri.now c.in-Some.digits.now c.in-Some.algorithm (sym (c.in-Some.ensures)) (sym c.is_name.ensures ∙ c.if-not-is_name.false)
    (subst (λ (b : Bool). Checked c.in-Some.algorithm c.in-Some.digits.now (Some b)) c.in-Some-true.field-0-test (c.in-Some-true.ensures))
