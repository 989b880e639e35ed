use Rattle.std.proofs.Common.{length, ap, arith}
use Rattle.ndn_names.specs.View.{components}
use Rattle.forwarder.proofs.ReplyLengths.{reply_is_short}
use Rattle.forwarder.proofs.reply.reply_room.Goals as goal

pub returns : goal.returns
returns c content le =
    let first = c.in-Some.ensures {u = tt} in
    let second = c.in-Some-checked_add.ensures {u = tt} in
    omega (arith, le, first.1, second.1, ap length c.as_octets.ensures.0.1, reply_is_short (components c.args.name) content)
