use Rattle.ndn_requests.proofs.Repositories.{whose}
use Rattle.ndn_requests.proofs.law.commands_tell_whose_they_are.Goals as goal

pub returns : goal.returns
returns c = λ name p digest whole. whose name p digest whole
