use Rattle.ndn_packets.specs.Packet.{AnInterest}
use Rattle.ndn_packets.specs.View.{plain_interest}
use Rattle.forwarder.proofs.Deciding.{said_otherwise}
use Rattle.forwarder.proofs.freshness.decide_command.Goals as goal

pub returns-in_default : goal.returns-in_default
returns-in_default c p r k g n =
    said_otherwise c.args.rules.now c.args.keys.now (AnInterest c.args.interest.now.whole.now (plain_interest c.args.interest.now)) c.in_ok-decision.decision c.in_default.not-Allowed c.in_ok-decision.ensures p r k
