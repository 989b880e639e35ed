use Rattle.std.proofs.Common.{sym, ◌∙◌}
use Rattle.key_files.proofs.Lines.{space_parts, space_whole}
use Rattle.key_files.proofs.Keys.{no_mark, word_marks, word_is_other}
use Rattle.key_files.proofs.key_line.marked.Goals as goal

pub returns-in_default : goal.returns-in_default
returns-in_default c = no_mark c.args.front.now (space_whole c.args.front.now c.in_default.ensures.cases)

pub returns-then-eq : goal.returns-then-eq
returns-then-eq c = word_marks c.args.front.now c.in-Some.uri.now c.in-Some.word.now (space_parts c.args.front.now c.in-Some.uri c.in-Some.word c.in-Some.ensures.cases) (sym c.eq.ensures ∙ c.if-eq.true)

pub returns-else-eq : goal.returns-else-eq
returns-else-eq c = word_is_other c.args.front.now c.in-Some.uri.now c.in-Some.word.now (space_parts c.args.front.now c.in-Some.uri c.in-Some.word c.in-Some.ensures.cases) (sym c.eq.ensures ∙ c.if-eq.false)
