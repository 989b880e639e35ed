use Rattle.ndn_requests.proofs.Repositories.{repository_reads}
use Rattle.ndn_requests.proofs.law.repositories_read_what_is_asked.Goals as goal

pub returns : goal.returns
returns c = λ prefix verb p digest values other whole. repository_reads prefix verb p digest values other whole
