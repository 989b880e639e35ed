use Rattle.std.proofs.Common.{None, Some, refl, arith}
use Rattle.name_patterns.proofs.TextParts.{cut_is}
use Rattle.name_patterns.proofs.repeat.braced_repeat.Goals as goal

pub returns-in_err-range-clause-read : goal.returns-in_err-range-clause-read
returns-in_err-range-clause-read c =
    rw (cut_is 125 c.args.text.now None c.in_err-range.ensures.cases (omega arith), c.from_residual.ensures) refl

pub returns-in_err-range_of-clause-read : goal.returns-in_err-range_of-clause-read
returns-in_err-range_of-clause-read c =
    rw (cut_is 125 c.args.text.now (Some (c.in_ok-range.range, c.in_ok-range.rest)) c.in_ok-range.ensures.cases (omega arith), c.from_residual-in_err-range_of.ensures, ← c.in_err-range_of.ensures) refl

pub returns-clause-read : goal.returns-clause-read
returns-clause-read c =
    rw (cut_is 125 c.args.text.now (Some (c.in_ok-range.range, c.in_ok-range.rest)) c.in_ok-range.ensures.cases (omega arith), ← c.in_ok-range_of.ensures) refl
