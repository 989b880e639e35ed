use Rattle.forwarder.proofs.Standing.{new_stands}
use Rattle.forwarder.proofs.law.new_nodes_stand_in_the_empty_run.Goals as goal

pub returns : goal.returns
returns c = λ first capacity. (tt, new_stands first capacity)
