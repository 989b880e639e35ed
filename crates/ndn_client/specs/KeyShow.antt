-- The lines that `key show` prints for the key of a certificate, and why it prints none.
use Rattle.std.specs.Prelude.{◌≡◌, ◌≢◌, ◌<◌, ◌≤◌, ℕ, List, length, string_bytes}
use Rattle.std.specs.declared.io.ErrorKind.{ErrorKind}
use Rattle.certificates.specs.KeyLines.{AreKeyLinesOf, IsFaultOfFile}
use Rattle.certificates.specs.declared.fault.CertificateFault.{CertificateFault}
use Rattle.certificates.specs.declared.fault.CertificateFault.TheVariants as certificate
use Rattle.ndn_jobs.specs.declared.fault.ToolFault.TheVariants.{Memory}
use Rattle.ndn_client.specs.declared.key_show.TheConstants.{MAX_CERTIFICATE_FILE}
use Rattle.ndn_client.specs.declared.fault.Fault.{Fault}
use Rattle.ndn_client.specs.declared.fault.Fault.TheVariants.{NoCertificate, LargeCertificate, NoFile, Tool}

-- the file at this path cannot be read for this cause, or memory ran out
abbrev pub IsNoFile : List ℕ → ErrorKind → Fault → Type 0
IsNoFile path kind (NoFile place cause) = (string_bytes place ≡ path) × (cause ≡ kind)
IsNoFile path kind (Tool why) = why ≡ Memory
IsNoFile path kind why = ⊥

abbrev pub IsLarge : List ℕ → Fault → Type 0
IsLarge path (LargeCertificate place) = string_bytes place ≡ path
IsLarge path (Tool why) = why ≡ Memory
IsLarge path why = ⊥

-- the file at this path has no certificate with a P-256 key, for the reason `fault`; or memory ran
-- out
abbrev pub IsNoKey : List ℕ → CertificateFault → Fault → Type 0
IsNoKey path fault (NoCertificate place why) =
    (string_bytes place ≡ path) × (why ≡ fault) × (fault ≢ certificate.Memory)
IsNoKey path fault (Tool why) = why ≡ Memory
IsNoKey path fault why = ⊥

-- the same, if the file has these octets
abbrev pub IsNoKeyOf : List ℕ → List ℕ → Fault → Type 0
IsNoKeyOf path octets (NoCertificate place why) =
    (string_bytes place ≡ path) × IsFaultOfFile octets why × (why ≢ certificate.Memory)
IsNoKeyOf path octets (Tool why) = why ≡ Memory
IsNoKeyOf path octets why = ⊥

-- the text is the lines for the certificate in these octets, which are not too many
abbrev pub AreLinesOfFile : List ℕ → List ℕ → Type 0
AreLinesOfFile octets text = (length octets ≤ MAX_CERTIFICATE_FILE) × AreKeyLinesOf octets text

-- the fault of the file at this path, whose octets are these: it cannot be read, it has too many
-- octets, it has no certificate with a P-256 key, or memory ran out
abbrev pub IsKeyFault : List ℕ → List ℕ → Fault → Type 0
IsKeyFault path octets (NoFile place cause) = string_bytes place ≡ path
IsKeyFault path octets (LargeCertificate place) =
    (string_bytes place ≡ path) × (MAX_CERTIFICATE_FILE < length octets)
IsKeyFault path octets (NoCertificate place why) =
    (length octets ≤ MAX_CERTIFICATE_FILE) × IsNoKeyOf path octets (NoCertificate place why)
IsKeyFault path octets (Tool why) = why ≡ Memory
IsKeyFault path octets why = ⊥
