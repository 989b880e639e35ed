use Rattle.std.proofs.Common.{arith, ap, length, length-drop, length-append}
use Rattle.ndn_streams.proofs.queue.Queue.push.Goals as goal

pub invariant_of-self-2 : goal.invariant_of-self-2
invariant_of-self-2 c =
    let room = c.make_room-self-inside.ensures in
    let before = c.make_room-self-inside.new.buffer in
    let waiting = ap length room.waiting in
    let sizes = length-drop c.make_room-self-inside.result before.items in
    let old = length-drop c.self.inside.done c.self.inside.buffer.items in
    let all = ap length c.append.ensures.items in
    let more = length-append before.items c.args.packet.now in
    let inside = c.self.invariant in
    (omega (arith, all, more, room.within, before.ok.0), omega (arith, waiting, sizes, old, all, more, room.within, before.ok.0, c.self.inside.buffer.ok.0, inside.0, inside.1), omega (arith, c.append.ensures.capacity, room.capacity, inside.2))
