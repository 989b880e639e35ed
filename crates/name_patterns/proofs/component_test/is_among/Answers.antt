use Rattle.std.proofs.Common.{sym, ◌∙◌, arith}
use Rattle.ndn_names.specs.View.{field_of as component}
use Rattle.name_patterns.proofs.Among.{among_at}
use Rattle.name_patterns.proofs.component_test.is_among.Goals as goal

pub returns-then-is : goal.returns-then-is
returns-then-is c =
    sym (among_at (component c.args.candidate) c.args.texts.now c.loop-text.text-index c.text-item.result (omega arith) c.text-item.is (sym c.is.ensures ∙ c.if-is.true))
