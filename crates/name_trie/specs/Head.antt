-- The first octets of a component's value as a number.
use Rattle.std.specs.Prelude.{◌≡◌, ◌<◌, ℕ, zero, suc, ◌+◌, ◌*◌, List, slice_index}

-- the first n octets of the list as a big-endian number; if the list has fewer than n octets, each
-- missing octet counts as zero
unfoldable pub head : ℕ → List ℕ → ℕ
head zero octets = 0
head (suc n) octets = head n octets * 256 + slice_index octets n

-- `number` is the first 8 octets of the list as a big-endian number, where each missing octet
-- counts as zero; all octets in the list are less than 256
pub record IsHead (octets : List ℕ) (number : ℕ) : Type 0 where
  pub is : number ≡ head 8 octets
  pub fit : (i : ℕ) → slice_index octets i < 256
