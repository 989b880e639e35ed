-- Files with certificates: the octets of a Data, or their base64 text (RFC 4648, section 4).
use Rattle.std.specs.Prelude.{◌≡◌, ◌⊎◌, ℕ, List, Some, Bool, filter, not, slice_get, ◌==◌, ◌||◌}
use Rattle.base64.specs.Engines.{standard}
use Rattle.base64.specs.GeneralPurpose.{IsBytes, encode_of}
use Rattle.certificates.specs.declared.data.TheConstants.{DATA}
use Rattle.certificates.specs.declared.fault.CertificateFault.{CertificateFault}
use Rattle.certificates.specs.declared.fault.CertificateFault.TheVariants.{NoBase64, NoData, NoCertificateName, NoContent, OtherKey, BadPoint, Memory}

-- the octets begin with the type of a Data
abbrev pub BeginsAsData : List ℕ → Type 0
BeginsAsData octets = slice_get octets 0 ≡ Some DATA

-- a space, a tab, CR or LF
abbrev pub is_space : ℕ → Bool
is_space octet = octet == 32 || (octet == 9 || (octet == 13 || octet == 10))

abbrev pub without_space : List ℕ → List ℕ
without_space text = filter (λ octet. not (is_space octet)) text

-- the text is the base64 text of these octets, with padding, in an alphabet of letters, digits,
-- plus and slash
abbrev pub IsBase64 : List ℕ → List ℕ → Type 0
IsBase64 text octets = IsBytes octets × (text ≡ encode_of standard octets)

-- the file has these octets
abbrev pub IsFileOf : List ℕ → List ℕ → Type 0
IsFileOf file octets =
    (BeginsAsData file × (octets ≡ file))
    ⊎ (¬ BeginsAsData file × IsBase64 (without_space file) octets)

-- the fault is the reason why no octets are those of the file, or memory ran out
abbrev pub IsFileFault : List ℕ → CertificateFault → Type 0
IsFileFault file NoBase64 = (octets : List ℕ) → ¬ IsFileOf file octets
IsFileFault file Memory = Unit {0}
IsFileFault file NoData = ⊥
IsFileFault file NoCertificateName = ⊥
IsFileFault file NoContent = ⊥
IsFileFault file OtherKey = ⊥
IsFileFault file (BadPoint why) = ⊥
