use Rattle.std.proofs.Common.{None, Some, ap, arith}
use Rattle.std.proofs.lemmas.Str.Pattern.{strip_prefix_char}
use Rattle.name_patterns.specs.PatternReading.{test_in}
use Rattle.name_patterns.proofs.TestReading.{test_plain}
use Rattle.name_patterns.proofs.test_reader.read_test.Goals as goal

pub returns-in-Some-clause-read : goal.returns-in-Some-clause-read
unfolding test_in
returns-in-Some-clause-read c =
    let bracket = strip_prefix_char 91 c.args.text.now (Some c.in-Some.list) c.in-Some.ensures.cases (omega arith) in
    rw (ap test_in bracket) c.read_list.ensures.read

pub returns-in-None-clause-read : goal.returns-in-None-clause-read
returns-in-None-clause-read c =
    rw (test_plain c.args.text.now (strip_prefix_char 91 c.args.text.now None c.in-None.ensures.cases (omega arith))) c.read_quoted.ensures.read
