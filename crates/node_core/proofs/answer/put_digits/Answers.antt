use Rattle.std.proofs.lemmas.Grind.{common_steps}
use Rattle.std.proofs.Common.{rules, arith}
use Rattle.hex.specs.Hex.{lower_digits}
use Rattle.hex.proofs.HexLemmas.{length-encode_with}
use Rattle.node_core.proofs.answer.put_digits.Goals as goal

pub returns-in_err-resize : goal.returns-in_err-resize
returns-in_err-resize c = record {
  ok = search rules;
  begins = grind (arith, common_steps);
  room = λ room. let many = length-encode_with lower_digits c.args.octets.now in grind (arith, many);
  capacity = search rules;
}
