-- Certificates in memory as plain data.
use Rattle.ndn_names.specs.View.{components}
use Rattle.certificates.specs.Certificate.{PlainCertificate}
use Rattle.certificates.specs.declared.certificate.Certificate.{Certificate}

abbrev pub plain_certificate : Certificate → PlainCertificate
plain_certificate certificate = record {
  name = components certificate.name;
  key_name = components certificate.key_name;
  point = certificate.point.now;
}
