-- Hashes of HMAC that have already read the block of a key.
use Rattle.std.specs.Prelude.{ℕ, List}
use Rattle.sha2.specs.Hashers.{Holds256}
use Rattle.hmac_keys.specs.declared.hmac.Blocks.{Blocks}
use Rattle.hmac_keys.specs.Mac.{block_of, xor_each}

-- the inner hash has read the key's block with each octet xor 0x36, and the outer hash has read the
-- key's block with each octet xor 0x5C
abbrev pub AreOf : Blocks → List ℕ → Type 0
AreOf blocks key =
    Holds256 blocks.inner (xor_each 0x36 (block_of key))
    × Holds256 blocks.outer (xor_each 0x5C (block_of key))
