use Rattle.std.proofs.Common.{None, Some, sym, ap, ◌∙◌, arith}
use Rattle.std.proofs.lemmas.Str.Pattern.{strip_prefix_char}
use Rattle.name_patterns.specs.PatternReading.{quoted_in}
use Rattle.name_patterns.proofs.TextParts.{quoted_none, cut_is}
use Rattle.name_patterns.proofs.text.first_quoted.Goals as goal

pub returns-in_err-strip_prefix-clause-read : goal.returns-in_err-strip_prefix-clause-read
returns-in_err-strip_prefix-clause-read c =
    rw c.from_residual.ensures (sym (quoted_none c.args.text.now (strip_prefix_char 60 c.args.text.now None c.in_err-strip_prefix.ensures.cases (omega arith))))

pub returns-clause-read : goal.returns-clause-read
returns-clause-read c =
    let sign = strip_prefix_char 60 c.args.text.now (Some c.in_ok-strip_prefix.field-0) c.in_ok-strip_prefix.ensures.cases (omega arith) in
    sym (ap quoted_in sign ∙ cut_is 62 c.in_ok-strip_prefix.field-0.now c.split_once.result c.split_once.ensures.cases (omega arith))
