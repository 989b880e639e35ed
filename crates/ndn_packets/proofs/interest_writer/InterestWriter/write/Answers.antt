use Rattle.ndn_packets.proofs.WrittenInterests.{interest_signed}
use Rattle.ndn_packets.proofs.interest_writer.InterestWriter.write.Goals as goal

pub returns-in_err-done-clause-signed : goal.returns-in_err-done-clause-signed
returns-in_err-done-clause-signed c = λ e. interest_signed c.args.self.now c.lengths-lengths.ensures.sound e

pub returns-clause-signed : goal.returns-clause-signed
returns-clause-signed c = λ e. interest_signed c.args.self.now c.lengths-lengths.ensures.sound e
