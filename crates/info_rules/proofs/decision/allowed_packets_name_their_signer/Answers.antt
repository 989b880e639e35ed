use Rattle.info_rules.proofs.Signers.{interest_named, data_named}
use Rattle.info_rules.proofs.decision.allowed_packets_name_their_signer.Goals as goal

pub returns-clause-interest : goal.returns-clause-interest
returns-clause-interest c = λ rules keys whole i rule allowed. interest_named rules keys whole i rule allowed

pub returns-clause-data : goal.returns-clause-data
returns-clause-data c = λ rules keys whole d rule allowed. data_named rules keys whole d rule allowed
