-- The SubjectPublicKeyInfo of a P-256 key with an uncompressed point (RFC 5280, section 4.1.2.7;
-- RFC 5480, sections 2 and 2.1.1):
--
--   SubjectPublicKeyInfo ::= SEQUENCE {
--     algorithm         SEQUENCE {
--       algorithm         OBJECT IDENTIFIER id-ecPublicKey, 1.2.840.10045.2.1
--       parameters        OBJECT IDENTIFIER secp256r1, 1.2.840.10045.3.1.7 },
--     subjectPublicKey  BIT STRING with the octets of the point }
--
-- Its DER form (X.690, sections 8.1, 8.6, 8.9 and 8.19) has 91 octets.
use Rattle.std.specs.Prelude.{◌≡◌, ℕ, List, [], ◌∷◌, ◌++◌, length}

-- an element of DER with this tag, whose contents have fewer than 128 octets
abbrev pub der : ℕ → List ℕ → List ℕ
der tag contents = tag ∷ length contents ∷ contents

abbrev pub object_identifier : List ℕ → List ℕ
object_identifier contents = der 0x06 contents

-- a BIT STRING whose number of bits is divisible by eight: no bits of the last octet are unused
abbrev pub bit_string : List ℕ → List ℕ
bit_string octets = der 0x03 (0x00 ∷ octets)

abbrev pub sequence : List ℕ → List ℕ
sequence contents = der 0x30 contents

abbrev pub id_ec_public_key : List ℕ
id_ec_public_key = object_identifier (0x2a ∷ 0x86 ∷ 0x48 ∷ 0xce ∷ 0x3d ∷ 0x02 ∷ 0x01 ∷ [])

abbrev pub secp256r1 : List ℕ
secp256r1 = object_identifier (0x2a ∷ 0x86 ∷ 0x48 ∷ 0xce ∷ 0x3d ∷ 0x03 ∷ 0x01 ∷ 0x07 ∷ [])

abbrev pub key_info : List ℕ → List ℕ
key_info point = sequence (sequence (id_ec_public_key ++ secp256r1) ++ bit_string point)

-- the content is the SubjectPublicKeyInfo of a P-256 key whose point has these 65 octets
abbrev pub IsKeyInfo : List ℕ → List ℕ → Type 0
IsKeyInfo content point = (length point ≡ 65) × (content ≡ key_info point)
