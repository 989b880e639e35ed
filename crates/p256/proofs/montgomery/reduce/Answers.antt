use Rattle.std.proofs.Common.{◌+◌, ◌*◌, ◌%◌, ◌^◌, ◌∙◌, ap, arith}
use Rattle.std.proofs.lemmas.Nat.{mul-mod_first}
use Rattle.p256.proofs.Modulo.{same_rest}
use Rattle.p256.specs.Integer.{value, wide_value}
use Rattle.p256.proofs.montgomery.reduce.Goals as goal

pub returns-clause-congruent : goal.returns-clause-congruent
returns-clause-congruent c =
    let m = value c.args.m.number in
    let whole = value c.add-carry.result.0 + 2 ^ 256 * c.add-carry.result.1 in
    ap (λ k. (k * 2 ^ 256) % m) c.reduce_once.ensures ∙ mul-mod_first whole (2 ^ 256) m
    ∙ same_rest (whole * 2 ^ 256) (wide_value c.args.x) 0 (value c.divide_words.result.1) m (omega arith)
