use Rattle.ndn_names.proofs.Names.{nothing_shown}
use Rattle.ndn_names.proofs.name_buf.NameBuf.new.Goals as goal

pub invariant_of-result : goal.invariant_of-result
invariant_of-result c = (nothing_shown c.new.result.items c.new.ensures.items).1

pub returns : goal.returns
returns c = (nothing_shown c.new.result.items c.new.ensures.items).0
