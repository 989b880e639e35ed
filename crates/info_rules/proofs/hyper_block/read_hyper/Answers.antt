use Rattle.std.proofs.Common.{refl}
use Rattle.info_rules.specs.HyperBlock.{parts_in}
use Rattle.info_rules.proofs.hyper_block.read_hyper.Goals as goal

pub returns : goal.returns
unfolding parts_in
returns c = rw (c.made_of.ensures, c.both-2.ensures, c.both.ensures, c.in_ok-key.ensures.read, c.in_ok-relation.ensures, c.in_ok-packet.ensures.read) refl
