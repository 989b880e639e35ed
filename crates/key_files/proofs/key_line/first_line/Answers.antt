use Rattle.std.proofs.Common.{refl, inl, inr}
use Rattle.key_files.proofs.Lines.{lines_parts, lines_whole}
use Rattle.key_files.proofs.key_line.first_line.Goals as goal

pub returns-in-Some-clause-lines : goal.returns-in-Some-clause-lines
returns-in-Some-clause-lines c = inl (lines_parts c.args.text.now c.in-Some.parts.0 c.in-Some.parts.1 c.in-Some.ensures.cases)

pub returns-in-None-clause-lines : goal.returns-in-None-clause-lines
returns-in-None-clause-lines c = inr (lines_whole c.args.text.now c.in-None.ensures.cases, refl)
