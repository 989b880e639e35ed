-- The first fault of octets that are not a certificate with a P-256 key.
use Rattle.std.specs.Prelude.{◌≡◌, ℕ, List, None, Some}
use Rattle.ndn_packets.specs.Grammar.{IsData}
use Rattle.ndn_packets.specs.Packet.{PlainData}
use Rattle.p256.specs.Key.{IsFaultOf as IsPointFaultOf}
use Rattle.certificates.specs.Certificate.{HasKey, IsCertificateName, IsNamedData}
use Rattle.certificates.specs.KeyInfo.{IsKeyInfo}
use Rattle.certificates.specs.declared.fault.CertificateFault.{CertificateFault}
use Rattle.certificates.specs.declared.fault.CertificateFault.TheVariants.{NoBase64, NoData, NoCertificateName, NoContent, OtherKey, BadPoint, Memory}

-- octets have no fault of a file, and reading them takes no memory
abbrev pub IsFaultOf : List ℕ → CertificateFault → Type 0
IsFaultOf octets NoBase64 = ⊥
IsFaultOf octets NoData = (packet : PlainData) → ¬ IsData octets packet
IsFaultOf octets NoCertificateName =
    (packet : PlainData) × IsData octets packet × ¬ IsCertificateName packet.name
IsFaultOf octets NoContent =
    (packet : PlainData) × IsNamedData octets packet × (packet.content ≡ None)
IsFaultOf octets OtherKey =
    (packet : PlainData) × IsNamedData octets packet
    × ((content : List ℕ) × (packet.content ≡ Some content)
    × ((point : List ℕ) → ¬ IsKeyInfo content point))
IsFaultOf octets (BadPoint why) =
    (packet : PlainData) × ((point : List ℕ) × HasKey octets packet point × IsPointFaultOf point why)
IsFaultOf octets Memory = ⊥
