use Rattle.std.proofs.Common.{arith}
use Rattle.ndn_log.proofs.Telling.{cut_long}
use Rattle.ndn_log.proofs.packet.cut.Goals as goal

pub returns : goal.returns
returns c = cut_long c.put_word.result c.args.start c.args.text.now.items c.truncate.new.self.items c.put_word.new.text.items (omega arith) (c.truncate.ensures.items) c.put_word.ensures
