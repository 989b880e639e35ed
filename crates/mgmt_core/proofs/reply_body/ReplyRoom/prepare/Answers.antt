use Rattle.std.proofs.Common.{ap, arith, length, vec_len}
use Rattle.std.specs.Vec.{vec_capacity}
use Rattle.mgmt_core.specs.Reading.{asked}
use Rattle.mgmt_core.proofs.Replies.{room_for_all}
use Rattle.mgmt_core.proofs.reply_body.ReplyRoom.prepare.Goals as goal

pub returns : goal.returns
returns c =
    room_for_all (asked c.args.command.now) (vec_len c.put_fields.new.out) (vec_capacity c.reserve.new.self) (vec_capacity c.reserve-2.new.self)
    (grind (arith, ap length c.in_ok-put_fields.ensures.ok, ap length c.clear-2.ensures.items))
    (grind (arith, c.len.ensures, c.in_ok-reserve.ensures.ok))
    (grind (arith, c.in_ok-reserve-2.ensures.ok))
