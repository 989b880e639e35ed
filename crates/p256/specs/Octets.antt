-- Numbers in octets (SEC 1, section 2.3.8).
use Rattle.std.specs.Prelude.{ℕ, ◌+◌, ◌*◌, ◌^◌, ◌<◌, List, [], ◌∷◌, length, slice_index}

-- the number that octets stand for, the most significant octet first
unfoldable pub big_endian : List ℕ → ℕ
big_endian [] = 0
big_endian (octet ∷ octets) = octet * 256 ^ length octets + big_endian octets

-- each number of the list is an octet
abbrev pub AreOctets : List ℕ → Type 0
AreOctets octets = (k : ℕ) → slice_index octets k < 256
