use Rattle.std.proofs.Common.{None, arith}
use Rattle.std.proofs.lemmas.Str.Pattern.{strip_prefix_char}
use Rattle.name_patterns.proofs.PartReading.{part_is_single}
use Rattle.name_patterns.proofs.template_reader.read_part.Goals as goal

pub returns-in-None-clause-read : goal.returns-in-None-clause-read
returns-in-None-clause-read c =
    rw (part_is_single c.args.groups c.args.at c.args.text.now (strip_prefix_char 92 c.args.text.now None c.in-None.ensures.cases (omega arith))) c.read_single.ensures.read
