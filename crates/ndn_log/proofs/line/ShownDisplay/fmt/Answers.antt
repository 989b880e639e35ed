use Rattle.std.proofs.Common.{arith}
use Rattle.std.proofs.lemmas.Fmt.{hex_byte}
use Rattle.std.proofs.lemmas.Grind.{common_steps}
use Rattle.ndn_log.proofs.line.ShownDisplay.fmt.Goals as goal

pub returns-else-is_printable-clause-writes : goal.returns-else-is_printable-clause-writes
returns-else-is_printable-clause-writes g c = grind (arith, common_steps, hex_byte)
