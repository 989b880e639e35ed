use Rattle.ndn_streams.proofs.Streams.{one_cut, exact_cut}
use Rattle.ndn_streams.proofs.law.streams_have_one_reading.Goals as goal

pub returns-clause-one : goal.returns-clause-one
returns-clause-one c = one_cut

pub returns-clause-exact : goal.returns-clause-exact
returns-clause-exact c octets packets left bytes = exact_cut octets packets left bytes
