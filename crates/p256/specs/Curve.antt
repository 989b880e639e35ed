-- The curve y^2 = x^3 - 3 x + b of P-256 (SP 800-186, section 3.2.1.3), and sums of its points in
-- projective coordinates: (X : Y : Z) stands for the point (X / Z, Y / Z), and for the point at
-- infinity if Z is 0.
use Rattle.std.specs.Prelude.{◌≡◌, ℕ, ◌+◌, ◌*◌, ◌/◌, ◌%◌}
use Rattle.std.proofs.Common.{zero, suc}
use Rattle.p256.specs.declared.point.Point.{Point}
use Rattle.p256.specs.Field.{number}
use Rattle.p256.specs.Prime.{prime, difference}

-- three coordinates, each modulo the prime
pub record Triple : Type 0 where
  pub x : ℕ
  pub y : ℕ
  pub z : ℕ

-- the coordinates that a point stands for
abbrev pub triple : Point → Triple
triple p = record { x = number p.x; y = number p.y; z = number p.z }

-- the constant term of the curve
abbrev pub b : ℕ
b = 0x5ac635d8aa3a93e7b3ebbd55769886bc651d06b0cc53b0f63bce3c3e27d2604b

-- (x, y) satisfies the equation of the curve, with - 3 x moved to its left side
abbrev pub IsOnCurve : ℕ → ℕ → Type 0
IsOnCurve x y = (y * y + 3 * x) % prime ≡ (x * x * x + b) % prime

-- the base point G
abbrev pub generator : Triple
generator = record {
  x = 0x6b17d1f2e12c4247f8bce6e563a440f277037d812deb33a0f4a13945d898c296;
  y = 0x4fe342e2fe1a7f9b8ee7eb4a7c0f9e162bce33576b315ececbb6406837bf51f5;
  z = 1;
}

-- the point at infinity
abbrev pub infinity : Triple
infinity = record { x = 0; y = 1; z = 0 }

-- The sum of two points of the curve, by the complete formula of Renes, Costello and Batina
-- ("Complete addition formulas for prime order elliptic curves", 2016, algorithm 4, for a = -3).
-- Complete means that the formula holds for all points: equal points and the point at infinity are
-- no exceptions. It is trusted, and not proved, that this is the sum of the curve's group, and so
-- that the order in which points are added does not matter. From xx = X1 X2, yy = Y1 Y2,
-- zz = Z1 Z2, xy = X1 Y2 + X2 Y1, yz = Y1 Z2 + Y2 Z1 and xz = X1 Z2 + X2 Z1, with
-- w = 3 (xz - b zz), v = 3 (b xz - 3 zz - xx) and u = 3 xx - 3 zz, the coordinates of the sum are
--   X3 = xy (yy + w) - yz v
--   Y3 = (yy + w) (yy - w) + u v
--   Z3 = yz (yy - w) + xy u
unfoldable pub sum_of_products : ℕ → ℕ → ℕ → ℕ → ℕ → ℕ → Triple
sum_of_products xx yy zz xy yz xz =
    let w = 3 * difference xz (b * zz) in
    let v = 3 * difference (difference (b * xz) (3 * zz)) xx in
    let u = difference (3 * xx) (3 * zz) in
    record {
      x = difference (xy * (yy + w)) (yz * v) % prime;
      y = ((yy + w) * difference yy w + u * v) % prime;
      z = (yz * difference yy w + xy * u) % prime;
    }

unfoldable pub sum : Triple → Triple → Triple
sum p q =
    sum_of_products (p.x * q.x) (p.y * q.y) (p.z * q.z)
    (p.x * q.y + q.x * p.y) (p.y * q.z + q.y * p.z) (p.x * q.z + q.x * p.z)

-- twice t, and plus u G + v q, where u and v are bits and G is the base point
abbrev pub with_bits : ℕ → ℕ → Triple → Triple → Triple
with_bits zero zero t q = sum t t
with_bits zero (suc _) t q = sum (sum t t) q
with_bits (suc _) zero t q = sum (sum t t) generator
with_bits (suc _) (suc _) t q = sum (sum t t) (sum generator q)

-- The point u G + v q, where only the last k bits of u and v count. The walk goes through the bits
-- of both numbers at once, the most significant bits first (Shamir's trick). If `sum` is the law of
-- a group, this is the sum of the two multiples (the law `combined_is_a_sum_of_multiples`).
unfoldable pub combined : ℕ → ℕ → ℕ → Triple → Triple
combined zero u v q = infinity
combined (suc k) u v q = with_bits (u % 2) (v % 2) (combined k (u / 2) (v / 2) q) q
