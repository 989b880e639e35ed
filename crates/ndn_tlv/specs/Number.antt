-- Encodings of numbers (NDN Packet Format 0.3, "Type-Length-Value (TLV) Encoding").
use Rattle.std.specs.Prelude.{◌≡◌, ℕ, ◌<◌, ◌≤◌, ◌^◌, ◌⊎◌, List, [], ◌∷◌, length, nat_lt, if◌then◌else◌}
use Rattle.std.specs.Int.{w16, w32, w64, to_be_bytes}

-- The text encodes n as a VAR-NUMBER, not necessarily in the shortest form. There are four forms:
-- one octet for a number below 253; an octet 253, then 2 octets for a number below 2^16; an octet
-- 254, then 4 octets for a number below 2^32; an octet 255, then 8 octets for a number below 2^64.
-- The octets of a number are in network order.
abbrev pub IsForm : List ℕ → ℕ → Type 0
IsForm text n =
    ((n < 253) × (text ≡ n ∷ []))
    ⊎ (((n < 2 ^ 16) × (text ≡ 253 ∷ to_be_bytes w16 n))
    ⊎ (((n < 2 ^ 32) × (text ≡ 254 ∷ to_be_bytes w32 n))
    ⊎ ((n < 2 ^ 64) × (text ≡ 255 ∷ to_be_bytes w64 n))))

-- the text is the shortest VAR-NUMBER encoding of n
abbrev pub Spells : List ℕ → ℕ → Type 0
Spells text n = IsForm text n × ((other : List ℕ) → IsForm other n → length text ≤ length other)

-- the shortest VAR-NUMBER encoding of a number below 2^64
unfoldable pub spelling : ℕ → List ℕ
spelling n =
    if nat_lt n 253 then n ∷ [] else (
    if nat_lt n (2 ^ 16) then 253 ∷ to_be_bytes w16 n else (
    if nat_lt n (2 ^ 32) then 254 ∷ to_be_bytes w32 n else
    255 ∷ to_be_bytes w64 n))

-- the text encodes n as a NonNegativeInteger: 1, 2, 4 or 8 octets in network order, not necessarily
-- the shortest encoding
abbrev pub IsNni : List ℕ → ℕ → Type 0
IsNni text n =
    ((n < 2 ^ 8) × (text ≡ n ∷ []))
    ⊎ (((n < 2 ^ 16) × (text ≡ to_be_bytes w16 n))
    ⊎ (((n < 2 ^ 32) × (text ≡ to_be_bytes w32 n))
    ⊎ ((n < 2 ^ 64) × (text ≡ to_be_bytes w64 n))))

-- the shortest NonNegativeInteger encoding of a number below 2^64
unfoldable pub shortest_nni : ℕ → List ℕ
shortest_nni n =
    if nat_lt n (2 ^ 8) then n ∷ [] else (
    if nat_lt n (2 ^ 16) then to_be_bytes w16 n else (
    if nat_lt n (2 ^ 32) then to_be_bytes w32 n else
    to_be_bytes w64 n))
