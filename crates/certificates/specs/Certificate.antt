-- Certificates (NDN Certificate Format 2.0).
use Rattle.std.specs.Prelude.{◌≡◌, ℕ, ◌-◌, ◌≤◌, List, Some, length, take, slice_get, codes}
use Rattle.ndn_tlv.specs.Element.{Field}
use Rattle.ndn_names.specs.declared.component_type.TheConstants.{GENERIC}
use Rattle.ndn_packets.specs.Grammar.{IsData}
use Rattle.ndn_packets.specs.Packet.{PlainData}
use Rattle.p256.specs.Curve.{IsOnCurve}
use Rattle.p256.specs.Key.{AreBelow, IsUncompressed, x_in, y_in}
use Rattle.certificates.specs.KeyInfo.{IsKeyInfo}

-- what a certificate tells: its name, the name of its key, and the octets of the key's point
pub record PlainCertificate : Type 0 where
  pub name : List Field
  pub key_name : List Field
  pub point : List ℕ

-- the name of a certificate: /<IdentityName>/KEY/<KeyId>/<IssuerId>/<Version>
abbrev pub IsCertificateName : List Field → Type 0
IsCertificateName name =
    (4 ≤ length name) × (slice_get name (length name - 4) ≡ Some (GENERIC, codes "KEY"))

-- the name of the key: /<IdentityName>/KEY/<KeyId>
abbrev pub key_name_of : List Field → List Field
key_name_of name = take (length name - 2) name

-- the octets are the uncompressed form of a point of the curve (SEC 1, section 2.3.4)
abbrev pub IsPoint : List ℕ → Type 0
IsPoint point = IsUncompressed point × AreBelow point × IsOnCurve (x_in point) (y_in point)

-- the octets are one Data, whose name is that of a certificate
pub record IsNamedData (octets : List ℕ) (packet : PlainData) : Type 0 where
  pub packet_is : IsData octets packet
  pub named : IsCertificateName packet.name

-- besides, the Content of the Data is the SubjectPublicKeyInfo of a P-256 key with these octets
pub record HasKey (octets : List ℕ) (packet : PlainData) (point : List ℕ) : Type 0 where
  pub named : IsNamedData octets packet
  pub content : List ℕ
  pub content_is : packet.content ≡ Some content
  pub key_info : IsKeyInfo content point

-- the octets are a certificate that tells this
pub record IsCertificate (octets : List ℕ) (certificate : PlainCertificate) : Type 0 where
  pub packet : PlainData
  pub has_key : HasKey octets packet certificate.point
  pub on_curve : IsPoint certificate.point
  pub name_is : certificate.name ≡ packet.name
  pub key_name_is : certificate.key_name ≡ key_name_of packet.name
