use Rattle.std.proofs.Common.{◌≡◌, ◌+◌, ◌*◌, ◌%◌, ap, arith}
use Rattle.std.proofs.Math.Nat.{mod-add-mod, add-mod-mod}
use Rattle.std.proofs.lemmas.Nat.{mul-mod_first}
use Rattle.p256.specs.Curve.{b}
use Rattle.p256.specs.Field.{number}
use Rattle.p256.specs.Prime.{prime}
use Rattle.p256.proofs.curve.is_on_curve.Goals as goal

pub returns : goal.returns
returns c =
    let x = number c.args.x in
    let y = number c.args.y in
    let left : number c.plus-left.result ≡ (y * y + 3 * x) % prime =
    simp (c.plus-left.ensures, c.plus-2.ensures, c.plus.ensures, c.times-square.ensures, mod-add-mod, add-mod-mod)
    (ap (λ t. t % prime) (let f : y * y + (x + x + x) ≡ y * y + 3 * x = omega arith in f)) in
    let constant : number c.plus-right.result ≡ (number c.times-cube.result + b) % prime = unfold number in c.plus-right.ensures in
    let right : number c.plus-right.result ≡ (x * x * x + b) % prime =
    simp (constant, c.times-cube.ensures, c.times.ensures, mul-mod_first, mod-add-mod) in
    rw (left, right) at c.is_same.ensures
