use Rattle.ndn_daemon.proofs.Requests.{asked, few_peers, fault_of_words}
use Rattle.ndn_daemon.proofs.command.request_of.Goals as goal

pub returns-in-Some-clause-asked : goal.returns-in-Some-clause-asked
returns-in-Some-clause-asked g c = asked _ _ c.named_request.result c.named_request.ensures

pub returns-in-Some-clause-few : goal.returns-in-Some-clause-few
returns-in-Some-clause-few g c = few_peers _ _ c.named_request.result c.named_request.ensures

pub returns-in-Some-clause-fault : goal.returns-in-Some-clause-fault
returns-in-Some-clause-fault g c = fault_of_words _ _ c.named_request.result c.named_request.ensures
