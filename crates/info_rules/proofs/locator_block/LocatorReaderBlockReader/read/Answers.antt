use Rattle.std.proofs.Common.{refl}
use Rattle.info_rules.specs.HyperBlock.{hyper_in}
use Rattle.info_rules.specs.LocatorBlock.{locator_of}
use Rattle.info_rules.proofs.locator_block.LocatorReaderBlockReader.read.Goals as goal

pub returns : goal.returns
unfolding locator_of hyper_in
returns c = rw (c.beside.ensures, c.in_ok-fault.ensures, c.made_of.ensures, c.in_ok-asked.ensures, c.in_ok-hypers.ensures, c.is_hyper_alone-needed.ensures) refl
