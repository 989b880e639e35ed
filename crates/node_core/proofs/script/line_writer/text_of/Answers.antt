use Rattle.std.proofs.Common.{arith}
use Rattle.node_core.specs.Script.LineWriter.{HasOctets}
use Rattle.node_core.proofs.EventLines.{on_ok}
use Rattle.node_core.proofs.script.line_writer.text_of.Goals as goal

pub returns-in_ok-octets-in-Packet-clause-octets : goal.returns-in_ok-octets-in-Packet-clause-octets
returns-in_ok-octets-in-Packet-clause-octets c = on_ok _ (HasOctets c.args.event.now) (rw c.in-Packet.is (omega arith, omega arith, c.in_ok-octets-in-Packet.ensures.octets))

pub returns-in-FaceUp-clause-octets : goal.returns-in-FaceUp-clause-octets
returns-in-FaceUp-clause-octets c = on_ok _ (HasOctets c.args.event.now) (rw c.in-FaceUp.is (omega arith, omega arith))

pub returns-in-FaceDown-clause-octets : goal.returns-in-FaceDown-clause-octets
returns-in-FaceDown-clause-octets c = on_ok _ (HasOctets c.args.event.now) (rw c.in-FaceDown.is (omega arith, omega arith))

pub returns-in-Tick-clause-octets : goal.returns-in-Tick-clause-octets
returns-in-Tick-clause-octets c = on_ok _ (HasOctets c.args.event.now) (rw c.in-Tick.is (omega arith))

pub returns-in_ok-rules-in-NewRules-clause-octets : goal.returns-in_ok-rules-in-NewRules-clause-octets
returns-in_ok-rules-in-NewRules-clause-octets c =
    on_ok _ (HasOctets c.args.event.now) (rw c.in-NewRules.is (omega arith, c.in_ok-rules-in-NewRules.ensures.octets, c.in_ok-keys-in-NewRules.ensures.octets))
