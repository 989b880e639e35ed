use Rattle.std.proofs.Common.{arith}
use Rattle.std.proofs.lemmas.Fmt.{hex_byte}
use Rattle.std.proofs.lemmas.Grind.{common_steps}
use Rattle.ndn_names.proofs.uri.OctetDisplay.fmt.Goals as goal

pub returns-then-matches-clause-writes : goal.returns-then-matches-clause-writes
returns-then-matches-clause-writes g c = grind (arith, common_steps)

pub returns-else-matches-clause-writes : goal.returns-else-matches-clause-writes
returns-else-matches-clause-writes g c = grind (arith, common_steps, hex_byte)
