-- Public keys in octets (SEC 1, section 2.3.4).
use Rattle.std.specs.Prelude.{◌≡◌, ℕ, ◌<◌, List, length, slice_index, slice_range}
use Rattle.p256.specs.declared.fault.PointFault.{PointFault}
use Rattle.p256.specs.declared.fault.PointFault.TheVariants.{BadForm, TooLarge, OffCurve}
use Rattle.p256.specs.declared.key.PublicKey.{PublicKey}
use Rattle.p256.specs.Curve.{IsOnCurve}
use Rattle.p256.specs.Field.{number}
use Rattle.p256.specs.Octets.{big_endian}
use Rattle.p256.specs.Prime.{prime}

-- the coordinates of a public key
abbrev pub x_of : PublicKey → ℕ
x_of key = number key.x

abbrev pub y_of : PublicKey → ℕ
y_of key = number key.y

-- the uncompressed form: the octet 04, and two coordinates of 32 octets each
abbrev pub IsUncompressed : List ℕ → Type 0
IsUncompressed octets = (length octets ≡ 65) × (slice_index octets 0 ≡ 4)

-- the coordinates in octets of this form
abbrev pub x_in : List ℕ → ℕ
x_in octets = big_endian (slice_range octets 1 33)

abbrev pub y_in : List ℕ → ℕ
y_in octets = big_endian (slice_range octets 33 65)

-- both coordinates are below the prime
abbrev pub AreBelow : List ℕ → Type 0
AreBelow octets = (x_in octets < prime) × (y_in octets < prime)

-- the octets are the uncompressed form of the public key, which is a point of the curve
pub record IsKey (octets : List ℕ) (key : PublicKey) : Type 0 where
  pub form : IsUncompressed octets
  pub below : AreBelow octets
  pub on_curve : IsOnCurve (x_in octets) (y_in octets)
  pub x_is : x_of key ≡ x_in octets
  pub y_is : y_of key ≡ y_in octets

-- the first fault of octets that are no public key
abbrev pub IsFaultOf : List ℕ → PointFault → Type 0
IsFaultOf octets BadForm = ¬ IsUncompressed octets
IsFaultOf octets TooLarge = IsUncompressed octets × ¬ AreBelow octets
IsFaultOf octets OffCurve =
    IsUncompressed octets × AreBelow octets × ¬ IsOnCurve (x_in octets) (y_in octets)
