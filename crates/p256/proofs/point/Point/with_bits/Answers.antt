use Rattle.std.proofs.Common.{◌≡◌, ◌∙◌, ap, arith}
use Rattle.p256.specs.Curve.{Triple, generator, sum, triple}
use Rattle.p256.specs.Field.{number}
use Rattle.p256.proofs.point.Point.with_bits.Goals as goal

pub returns-then-v-eq0-2 : goal.returns-then-v-eq0-2
returns-then-v-eq0-2 c =
    let one : c.args.u ≡ 1 = omega arith in
    let none : c.args.v ≡ 0 = omega arith in
    let more : triple c.plus-then-v-eq0-2.result ≡ sum (triple c.twice-twice.result) generator = unfold number in c.plus-then-v-eq0-2.ensures in
    rw (one, none) (more ∙ ap (λ (t : Triple). sum t generator) c.twice-twice.ensures)
