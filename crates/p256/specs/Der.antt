-- The DER form of a signature (X.690; RFC 3279, section 2.2.3):
--   Ecdsa-Sig-Value ::= SEQUENCE { r INTEGER, s INTEGER }
use Rattle.std.specs.Prelude.{◌≡◌, ℕ, ◌^◌, ◌<◌, ◌≤◌, List, [], ◌∷◌, ◌++◌, length, slice_index}
use Rattle.p256.specs.Octets.{big_endian}

-- an element: its tag, the length of its contents in one octet, and its contents (X.690, section
-- 8.1); no element of a signature is so long that its length has several octets
abbrev pub element : ℕ → List ℕ → List ℕ
element tag contents = tag ∷ length contents ∷ contents

-- octets begin with an element, and the rest follows
abbrev pub IsElement : List ℕ → ℕ → List ℕ → List ℕ → Type 0
IsElement octets tag contents rest = octets ≡ element tag contents ++ rest

-- The contents of an INTEGER have 1 to 33 octets. Their first bit is 0, so the number is not
-- negative, and the first 9 bits are not all 0, so that no octet can be left out (X.690, sections
-- 8.3.2 and 8.3.3).
pub record IsShortest (contents : List ℕ) : Type 0 where
  pub size : (1 ≤ length contents) × (length contents ≤ 33)
  pub positive : slice_index contents 0 < 128
  pub shortest : 2 ≤ length contents → slice_index contents 0 ≡ 0 → 128 ≤ slice_index contents 1

-- the contents of an INTEGER with the number n
abbrev pub IsContents : List ℕ → ℕ → Type 0
IsContents contents n = IsShortest contents × (big_endian contents ≡ n)

-- octets begin with an INTEGER with the number n, and the rest follows
pub record IsInteger (octets : List ℕ) (n : ℕ) (rest : List ℕ) : Type 0 where
  pub contents : List ℕ
  pub contents_are : IsContents contents n
  pub element_is : IsElement octets 2 contents rest

-- octets are the DER form of the numbers r and s, which are below 2^256: a SEQUENCE of two INTEGERs
pub record IsDer (octets : List ℕ) (r s : ℕ) : Type 0 where
  pub below : (r < 2 ^ 256) × (s < 2 ^ 256)
  pub body : List ℕ
  pub after_r : List ℕ
  pub sequence : IsElement octets 48 body []
  pub r_is : IsInteger body r after_r
  pub s_is : IsInteger after_r s []
