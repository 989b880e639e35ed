use Rattle.std.proofs.Common.{◌≡◌, ℕ, ◌+◌, ◌*◌, ◌^◌, arith}
use Rattle.p256.specs.Integer.{value}
use Rattle.p256.proofs.Clearing.{quotient_small}
use Rattle.p256.proofs.montgomery.divide_words.Goals as goal

pub returns : goal.returns
returns c =
    let m = value c.args.m.number in
    let multiple : ℕ = value (record { w0 = c.divide_word-w0.result.1; w1 = c.divide_word-w1.result.1; w2 = c.divide_word-w2.result.1; w3 = c.divide_word-w3.result.1 }) in
    let exact : 2 ^ 256 * value c.divide_word-w3.result.0 ≡ value c.args.x + multiple * m = omega arith in
    record {
      exact = exact;
      small = quotient_small (value c.args.x) multiple m (value c.divide_word-w3.result.0) exact (omega arith) (omega arith);
    }
