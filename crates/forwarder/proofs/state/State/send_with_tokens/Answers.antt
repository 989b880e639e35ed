use Rattle.std.proofs.Common.{◌∙◌}
use Rattle.ndn_packets.specs.View.{plain_data}
use Rattle.forwarder.specs.State.{state_of}
use Rattle.forwarder.specs.Replies.{sent_to}
use Rattle.forwarder.proofs.Delivered.{sent_to_askers}
use Rattle.forwarder.proofs.state.State.send_with_tokens.Goals as goal

pub returns-clause-sends : goal.returns-clause-sends
returns-clause-sends c =
    let whole = c.args.packet.now.whole.now in
    let given = c.push_with_tokens.ensures.sends in (
      sent_to given.0 whole,
      given.3,
      sent_to_askers (state_of c.args.self.now) c.args.self.now.now whole (plain_data c.args.packet.now) c.askers-askers.result c.askers-askers.ensures.faces c.args.face c.askers-askers.ensures.rising
          given.0 (given.1 ∙ c.without_face.ensures) given.2,
    )
