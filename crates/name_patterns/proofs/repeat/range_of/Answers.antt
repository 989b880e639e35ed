use Rattle.std.proofs.Common.{None, Some, refl, sym, ap, ◌∙◌, arith}
use Rattle.name_patterns.specs.PatternReading.{range_by_cut, range_in}
use Rattle.name_patterns.proofs.TextParts.{cut_is}
use Rattle.name_patterns.proofs.repeat.range_of.Goals as goal

pub returns-in-Some : goal.returns-in-Some
unfolding range_in
returns-in-Some c =
    c.range_by_comma.ensures ∙ sym (ap (range_by_cut c.args.text.now) (cut_is 44 c.args.text.now (Some (c.in-Some.low, c.in-Some.high)) c.in-Some.ensures.cases (omega arith)))

pub returns-in_err-n-in-None : goal.returns-in_err-n-in-None
unfolding range_in
returns-in_err-n-in-None c =
    rw (cut_is 44 c.args.text.now None c.in-None.ensures.cases (omega arith), c.from_residual.ensures, ← c.in_err-n-in-None.ensures) refl

pub returns-in_ok-n-in-None : goal.returns-in_ok-n-in-None
unfolding range_in
returns-in_ok-n-in-None c =
    rw (cut_is 44 c.args.text.now None c.in-None.ensures.cases (omega arith), ← c.in_ok-n-in-None.ensures) refl
