use Rattle.std.proofs.Common.{None, Some, sym, ◌∙◌, arith}
use Rattle.std.proofs.lemmas.Str.Pattern.{find_char}
use Rattle.info_rules.proofs.Scanning.{line_end_at, line_end_none}
use Rattle.info_rules.proofs.words.from_line_end.Goals as goal

pub returns-in-Some-clause-read : goal.returns-in-Some-clause-read
returns-in-Some-clause-read c =
    let p = find_char 10 c.args.text.now (Some c.in-Some.place) c.in-Some.ensures.cases (omega arith) in
    c.split_at.ensures.back ∙ sym (line_end_at c.args.text.now c.in-Some.place p.0 p.1 p.2)

pub returns-in-None-clause-read : goal.returns-in-None-clause-read
returns-in-None-clause-read c = sym (line_end_none c.args.text.now (find_char 10 c.args.text.now None c.in-None.ensures.cases (omega arith)))
