use Rattle.certificates.proofs.OneCertificate.{no_fault, one_certificate}
use Rattle.certificates.proofs.certificate.certificates_have_one_reading.Goals as goal

pub returns-clause-one : goal.returns-clause-one
returns-clause-one c = one_certificate

pub returns-clause-no_fault : goal.returns-clause-no_fault
returns-clause-no_fault c = no_fault
