use Rattle.std.proofs.Common.{arith}
use Rattle.p256.specs.Integer.{value}
use Rattle.p256.proofs.Modulo.{added_once}
use Rattle.p256.proofs.integer.sub_mod.Goals as goal

pub returns : goal.returns
returns c =
    added_once (value c.args.a) (value c.args.b) (value c.args.m) (value c.sub-borrow.result.0) c.sub-borrow.result.1
    (value c.times_bit.result) (value c.add.result.0) c.add.result.1
    c.requires.a_below c.requires.b_below (omega arith) c.sub-borrow.ensures.exact c.sub-borrow.ensures.bit (omega arith)
    c.times_bit.ensures c.add.ensures.exact (omega arith)
