use Rattle.std.proofs.Common.{◌≡◌, ◌*◌, ◌/◌, ◌%◌, ◌^◌}
use Rattle.p256.specs.Curve.{combined, triple}
use Rattle.p256.specs.Integer.{value}
use Rattle.p256.proofs.curve.combined.Given as goal

abbrev pub invariant-loop-taken : goal.invariant-loop-taken
invariant-loop-taken l = record {
  left_u : value l.rest_u ≡ value l.fn.u * 2 ^ l._taken % 2 ^ 256;
  left_v : value l.rest_v ≡ value l.fn.v * 2 ^ l._taken % 2 ^ 256;
  done : triple l.point
      ≡ combined l._taken (value l.fn.u * 2 ^ l._taken / 2 ^ 256) (value l.fn.v * 2 ^ l._taken / 2 ^ 256) (triple l.key);
}
