use Rattle.std.proofs.Common.{arith, rules}
use Rattle.std.proofs.lemmas.Grind.{common_steps}
use Rattle.ndn_client.proofs.fault.FaultDisplay.fmt.Goals as goal

pub returns-in-NoCertificate-clause-writes : goal.returns-in-NoCertificate-clause-writes
returns-in-NoCertificate-clause-writes g c =
    let e = c.certificate_words.ensures in
    let w = c.writeln-in-NoCertificate.ensures.writes in
    rw (c.in-NoCertificate.is, ← e) (first_of (search (rules, w), grind (arith, common_steps, w)))
