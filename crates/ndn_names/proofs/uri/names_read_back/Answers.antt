use Rattle.ndn_names.proofs.ReadBack.{name_reads}
use Rattle.ndn_names.proofs.uri.names_read_back.Goals as goal

pub returns : goal.returns
returns c = name_reads
