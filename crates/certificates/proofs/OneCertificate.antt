-- Octets are at most one certificate.
use Rattle.std.proofs.Common.{◌≡◌, ℕ, List, None, Some, Result, Ok, Err, MatchResult, IsOkAnd, sym, subst, ap, ◌∙◌}
use Rattle.ndn_packets.specs.Packet.{PlainData}
use Rattle.certificates.specs.Certificate.{HasKey, IsCertificate, IsCertificateName, IsPoint, PlainCertificate, key_name_of}
use Rattle.certificates.specs.FirstFault.{IsFaultOf}
use Rattle.certificates.specs.KeyInfo.{IsKeyInfo}
use Rattle.certificates.specs.View.{plain_certificate}
use Rattle.certificates.specs.declared.certificate.Certificate.{Certificate}
use Rattle.certificates.specs.declared.fault.CertificateFault.{CertificateFault}
use Rattle.certificates.specs.declared.fault.CertificateFault.TheVariants.{NoBase64, NoData, NoCertificateName, NoContent, OtherKey, BadPoint, Memory}
use Rattle.p256.specs.Key.{IsFaultOf as IsPointFaultOf}
use Rattle.p256.specs.declared.fault.PointFault.{PointFault}
use Rattle.p256.specs.declared.fault.PointFault.TheVariants.{BadForm, TooLarge, OffCurve}
use Rattle.certificates.proofs.KeyInfos.{one_point}
use Rattle.certificates.proofs.OneData.{one_data}

some_is : (a b : List ℕ) → Some a ≡ Some b → a ≡ b
some_is a b e = cc

one_content : (p q : PlainData) (a b : List ℕ) → p ≡ q → p.content ≡ Some a → q.content ≡ Some b → a ≡ b
one_content p q a b same f g = some_is a b (sym f ∙ (ap (λ (d : PlainData). d.content) same ∙ g))

one_packet : (octets : List ℕ) (p q : PlainData) (a b : List ℕ) → HasKey octets p a → HasKey octets q b → p ≡ q
one_packet octets p q a b f g = one_data octets p q f.named.packet_is g.named.packet_is

one_key : (octets : List ℕ) (p q : PlainData) (a b : List ℕ) → HasKey octets p a → HasKey octets q b → a ≡ b
one_key octets p q a b f g =
    let same = one_content p q f.content g.content (one_packet octets p q a b f g) f.content_is g.content_is in
    one_point g.content a b (subst (λ (c : List ℕ). IsKeyInfo c a) same f.key_info) g.key_info

pub one_certificate : (octets : List ℕ) (a b : PlainCertificate) → IsCertificate octets a → IsCertificate octets b → a ≡ b
one_certificate octets a b f g =
    let packets : f.packet ≡ g.packet = one_packet octets f.packet g.packet a.point b.point f.has_key g.has_key in
    let points : a.point ≡ b.point = one_key octets f.packet g.packet a.point b.point f.has_key g.has_key in
    let names : a.name ≡ b.name = f.name_is ∙ (ap (λ (d : PlainData). d.name) packets ∙ sym g.name_is) in
    let key_names : a.key_name ≡ b.key_name =
    f.key_name_is ∙ (ap (λ (d : PlainData). key_name_of d.name) packets ∙ sym g.key_name_is) in
    λ i. record { name = names i; key_name = key_names i; point = points i }

no_point_fault : (point : List ℕ) (why : PointFault) → IsPoint point → IsPointFaultOf point why → ⊥
no_point_fault point BadForm h f = f h.0
no_point_fault point TooLarge h f = f.1 h.1
no_point_fault point OffCurve h f = f.2 h.2

pub no_fault : (octets : List ℕ) (a : PlainCertificate) (fault : CertificateFault) → IsCertificate octets a → IsFaultOf octets fault → ⊥
no_fault octets a NoBase64 h f = f
no_fault octets a NoData h f = f h.packet h.has_key.named.packet_is
no_fault octets a NoCertificateName h f =
    let same = one_data octets h.packet f.0 h.has_key.named.packet_is f.1 in
    f.2 (subst (λ (d : PlainData). IsCertificateName d.name) same h.has_key.named.named)
no_fault octets a NoContent h f =
    let same = one_data octets h.packet f.0 h.has_key.named.packet_is f.1.packet_is in
    let none : None ≡ Some h.has_key.content = sym f.2 ∙ (sym (ap (λ (d : PlainData). d.content) same) ∙ h.has_key.content_is) in
    absurd cc
no_fault octets a OtherKey h f =
    let same = one_data octets h.packet f.0 h.has_key.named.packet_is f.1.packet_is in
    let content = one_content h.packet f.0 h.has_key.content f.2.0 same h.has_key.content_is f.2.1 in
    f.2.2 a.point (subst (λ (c : List ℕ). IsKeyInfo c a.point) content h.has_key.key_info)
no_fault octets a (BadPoint why) h f =
    let same = one_key octets h.packet f.0 a.point f.1.0 h.has_key f.1.1 in
    no_point_fault f.1.0 why (subst (λ (p : List ℕ). IsPoint p) same h.on_curve) f.1.2
no_fault octets a Memory h f = f

pub only-from_cases : (octets : List ℕ) (r : Result Certificate CertificateFault) → MatchResult r (λ read. IsCertificate octets (plain_certificate read)) (IsFaultOf octets) → (a : PlainCertificate) → IsCertificate octets a → IsOkAnd r (λ read. plain_certificate read ≡ a)
only-from_cases octets (Ok read) h a f = one_certificate octets (plain_certificate read) a h f
only-from_cases octets (Err fault) h a f = absurd (no_fault octets a fault f h)
