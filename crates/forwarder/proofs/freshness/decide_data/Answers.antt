use Rattle.ndn_packets.specs.View.{plain_data}
use Rattle.forwarder.proofs.Deciding.{may_refuse, said_of_data}
use Rattle.forwarder.proofs.freshness.decide_data.Goals as goal

pub returns-clause-said : goal.returns-clause-said
returns-clause-said c = said_of_data c.args.rules.now c.args.keys.now c.args.packet.now.whole.now (plain_data c.args.packet.now) _ c.decide.result c.decide.ensures

pub returns-clause-memory : goal.returns-clause-memory
returns-clause-memory c = may_refuse _ _ c.decide.result c.decide.ensures
