use Rattle.std.proofs.Common.{arith}
use Rattle.std.proofs.lemmas.Grind.{common_steps}
use Rattle.ndn_log.specs.Line.{shown_text}
use Rattle.ndn_log.proofs.Printable.{shown_is_printable}
use Rattle.ndn_log.proofs.line.shown_line.Goals as goal

pub returns-clause-one_line : goal.returns-clause-one_line
returns-clause-one_line c =
    (shown_text c.args.octets.now, grind (arith, common_steps), shown_is_printable c.args.octets.now (λ i. omega (arith, c.type_inv.octets i)))
