-- What an ECDSA signature over P-256 is (FIPS 186-5, section 6.4.2). The numbers of steps are those
-- of SEC 1, section 4.1.4.
use Rattle.std.specs.Prelude.{◌≡◌, ◌≢◌, ℕ, ◌*◌, ◌%◌, ◌<◌}
use Rattle.p256.specs.declared.signature.Signature.{Signature}
use Rattle.p256.specs.Curve.{IsOnCurve, Triple, combined}
use Rattle.p256.specs.Integer.{value}
use Rattle.p256.specs.Order.{order}
use Rattle.p256.specs.Prime.{prime}
use Rattle.p256.specs.Scalars.{inverse_of}

-- the two numbers of a signature
abbrev pub r_of : Signature → ℕ
r_of signature = value signature.r

abbrev pub s_of : Signature → ℕ
s_of signature = value signature.s

-- step 1: the number is above 0 and below the order
abbrev pub IsInRange : ℕ → Type 0
IsInRange x = (0 < x) × (x < order)

-- steps 4 and 5: the point u G + v Q, where u is h / s and v is r / s modulo the order, G is the
-- base point, and Q is the public key (x, y)
unfoldable pub compared : ℕ → ℕ → ℕ → ℕ → ℕ → Triple
compared h r s x y =
    let w = inverse_of s in
    combined 256 (h * w % order) (r * w % order) (record { x = x; y = y; z = 1 })

-- steps 5 to 8: the point is not the point at infinity, and its affine first coordinate a is r
-- modulo the order
abbrev pub HasX : Triple → ℕ → Type 0
HasX t r = (t.z ≢ 0) × ((a : ℕ) × (a < prime) × (a % order ≡ r) × ((a * t.z) % prime ≡ t.x))

-- (r, s) is a signature of octets with the hash h under the public key (x, y)
pub record IsSigned (h r s x y : ℕ) : Type 0 where
  -- the public key is a point of the curve
  pub key_in : (x < prime) × (y < prime)
  pub on_curve : IsOnCurve x y
  pub r_in : IsInRange r
  pub s_in : IsInRange s
  pub agrees : HasX (compared h r s x y) r
