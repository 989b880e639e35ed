use Rattle.std.proofs.Common.{arith}
use Rattle.std.proofs.lemmas.Fmt.{hex_byte}
use Rattle.std.proofs.lemmas.Grind.{common_steps}
use Rattle.ndn_names.proofs.uri.HexadecimalDisplay.fmt.Goals as goal

pub loop-octet-preserved : goal.loop-octet-preserved
loop-octet-preserved g c = grind (arith, common_steps, hex_byte)
