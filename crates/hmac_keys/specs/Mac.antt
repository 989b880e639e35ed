-- HMAC with SHA-256 (RFC 2104, "Definition of HMAC").
use Rattle.std.specs.Prelude.{ℕ, ◌-◌, List, ◌++◌, length, map, replicate, bit_xor, nat_lt, if◌then◌else◌}
use Rattle.sha2.specs.Sha256.{sha256}

-- the key, or the SHA-256 hash of the key if the key has more than 64 octets
abbrev pub short_key : List ℕ → List ℕ
short_key key = if nat_lt 64 (length key) then sha256 key else key

-- the key, or the SHA-256 hash of the key if the key has more than 64 octets; in both cases, zeros
-- are added at the end to make a block of 64 octets
abbrev pub block_of : List ℕ → List ℕ
block_of key = short_key key ++ replicate (64 - length (short_key key)) 0

abbrev pub xor_each : ℕ → List ℕ → List ℕ
xor_each pad block = map (λ octet. bit_xor octet pad) block

-- H (K xor opad, H (K xor ipad, text)) in the notation of RFC 2104, where H is SHA-256, K is the
-- key's block, opad is 5c and ipad is 36 in hexadecimal
abbrev pub Mac : List ℕ → List ℕ → List ℕ
Mac key text =
    sha256 (xor_each 0x5C (block_of key) ++ sha256 (xor_each 0x36 (block_of key) ++ text))
