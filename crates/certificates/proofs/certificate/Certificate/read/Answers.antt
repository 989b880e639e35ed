use Rattle.certificates.proofs.OneCertificate.{only-from_cases}
use Rattle.certificates.proofs.certificate.Certificate.read.Goals as goal

pub returns-clause-only : goal.returns-clause-only
returns-clause-only c = only-from_cases c.args.octets.now c.certificate_in.result c.certificate_in.ensures
