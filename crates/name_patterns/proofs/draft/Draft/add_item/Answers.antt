use Rattle.std.proofs.Common.{None, arith}
use Rattle.std.proofs.lemmas.Str.Pattern.{strip_prefix_char}
use Rattle.name_patterns.specs.Shown.{draft_of}
use Rattle.name_patterns.proofs.ItemReading.{item_is_atom}
use Rattle.name_patterns.proofs.draft.Draft.add_item.Goals as goal

pub returns-clause-read : goal.returns-clause-read
returns-clause-read c =
    let opens = strip_prefix_char 40 c.args.text.now None c.in_default.ensures.cases (omega arith) in
    let closes = strip_prefix_char 41 c.args.text.now None c.in_default-strip_prefix.ensures.cases (omega arith) in
    rw (item_is_atom (draft_of c.args.self.now) c.args.at c.args.text.now opens closes) c.add_atom.ensures.read
