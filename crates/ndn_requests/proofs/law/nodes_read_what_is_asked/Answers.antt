use Rattle.ndn_requests.proofs.Nodes.{node_reads}
use Rattle.ndn_requests.proofs.law.nodes_read_what_is_asked.Goals as goal

pub returns : goal.returns
returns c = λ action p digest values whole. node_reads action p digest values whole
