use Rattle.std.proofs.Common.{arith}
use Rattle.p256.specs.Integer.{value}
use Rattle.p256.specs.Prime.{prime}
use Rattle.p256.proofs.Clearing.{upper_half_below}
use Rattle.p256.proofs.field.multiply.Goals as goal

pub reduce-requires : goal.reduce-requires
reduce-requires c =
    upper_half_below (value c.product.result.low) (value c.product.result.high) (value c.args.a) (value c.args.b) prime
    c.product.ensures c.requires (omega arith)
