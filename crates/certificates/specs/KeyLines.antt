-- The lines of a key file for the key of a certificate.
use Rattle.std.specs.Prelude.{◌≡◌, ◌⊎◌, ℕ, List, ◌++◌, codes}
use Rattle.hex.specs.Hex.{encode_lower}
use Rattle.ndn_tlv.specs.Element.{Field}
use Rattle.ndn_names.specs.Uri.{uri_of}
use Rattle.certificates.specs.Certificate.{IsCertificate, PlainCertificate}
use Rattle.certificates.specs.File.{IsFileFault, IsFileOf}
use Rattle.certificates.specs.FirstFault.{IsFaultOf}
use Rattle.certificates.specs.declared.fault.CertificateFault.{CertificateFault}

-- NAME ecdsa-p256 HEX
abbrev pub line_of : List ℕ → List ℕ → List ℕ
line_of name digits = name ++ (codes " ecdsa-p256 " ++ (digits ++ codes "\n"))

-- the line of a key with this name and these octets
abbrev pub key_line : List Field → List ℕ → List ℕ
key_line name point = line_of (uri_of name) (encode_lower point)

-- the line with the name of the key, and the line with the name of the certificate
abbrev pub key_lines : PlainCertificate → List ℕ
key_lines certificate =
    key_line certificate.key_name certificate.point ++ key_line certificate.name certificate.point

-- the octets of the file are a certificate, and the text is the lines of its key
pub record AreKeyLinesOf (file text : List ℕ) : Type 0 where
  pub octets : List ℕ
  pub certificate : PlainCertificate
  pub octets_are : IsFileOf file octets
  pub certificate_is : IsCertificate octets certificate
  pub text_is : text ≡ key_lines certificate

-- the fault of the octets of the file, or the reason why the file has none, or memory ran out
abbrev pub IsFaultOfFile : List ℕ → CertificateFault → Type 0
IsFaultOfFile file why =
    IsFileFault file why ⊎ ((octets : List ℕ) × IsFileOf file octets × IsFaultOf octets why)
