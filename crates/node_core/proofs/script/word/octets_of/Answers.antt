use Rattle.std.proofs.Common.{sym, ◌∙◌}
use Rattle.node_core.proofs.Lists.{empty_list}
use Rattle.node_core.proofs.Words.{HexSpells-empty}
use Rattle.node_core.proofs.script.word.octets_of.Goals as goal

pub returns-then-is_empty-clause-none : goal.returns-then-is_empty-clause-none
returns-then-is_empty-clause-none c =
    let e = empty_list c.args.word.now (sym c.is_empty.ensures ∙ c.if-is_empty.true) in
    λ octets h. HexSpells-empty octets (rw e at h)
