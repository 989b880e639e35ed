use Rattle.key_files.proofs.Lines.{space_parts, space_whole}
use Rattle.key_files.proofs.Keys.{no_split, split_parts}
use Rattle.key_files.proofs.key_line.parts_of.Goals as goal

pub returns-in-None : goal.returns-in-None
returns-in-None c = no_split c.args.line.now (space_whole c.args.line.now c.in-None.ensures.cases)

pub returns-in-Some : goal.returns-in-Some
returns-in-Some c =
    split_parts c.args.line.now c.in-Some.front.now c.in-Some.digits.now (c.marked.result.0, c.marked.result.1.now)
    (space_parts c.args.line.now c.in-Some.front c.in-Some.digits c.in-Some.ensures.cases) c.marked.ensures
