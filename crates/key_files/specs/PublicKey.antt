-- Public keys for ECDSA over P-256 in octets, and the signatures that they verify (FIPS 186-5,
-- section 6.4.2; the definitions are those of `p256`).
use Rattle.std.specs.Prelude.{ℕ, ◌+◌, ◌*◌, ◌%◌, List, length, slice_index, Bool, nat_lt, ◌==◌, ◌&&◌}
use Rattle.sha2.specs.Sha256.{sha256}
use Rattle.p256.specs.Curve.{IsOnCurve, b}
use Rattle.p256.specs.Der.{IsDer}
use Rattle.p256.specs.Key.{IsUncompressed, AreBelow, x_in, y_in}
use Rattle.p256.specs.Octets.{big_endian}
use Rattle.p256.specs.Prime.{prime}
use Rattle.p256.specs.Signature.{IsSigned}

-- the octets are the uncompressed form of a point of the curve (SEC 1, section 2.3.4)
abbrev pub IsPublicKey : List ℕ → Type 0
IsPublicKey octets =
    IsUncompressed octets × AreBelow octets × IsOnCurve (x_in octets) (y_in octets)

-- whether the octets are a public key
abbrev pub is_public_key : List ℕ → Bool
is_public_key octets =
    ((length octets == 65) && (slice_index octets 0 == 4))
    && ((nat_lt (x_in octets) prime && nat_lt (y_in octets) prime)
    && ((y_in octets * y_in octets + 3 * x_in octets) % prime
    == (x_in octets * x_in octets * x_in octets + b) % prime))

-- the value is the DER form of an ECDSA signature of the text under the public key with these octets
abbrev pub IsEcdsaOf : List ℕ → List ℕ → List ℕ → Type 0
IsEcdsaOf key text value =
    (r s : ℕ) × IsDer value r s × IsSigned (big_endian (sha256 text)) r s (x_in key) (y_in key)
