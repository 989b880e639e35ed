use Rattle.forwarder.specs.Parts.{parts_fault}
use Rattle.node_core.proofs.Finishing.{made_of_good_parts}
use Rattle.ndn_daemon.proofs.port.run_on_port.Goals as goal

pub returns-clause-parts : goal.returns-clause-parts
returns-clause-parts g c =
    made_of_good_parts _ _ (parts_fault c.args.parts.repo c.args.parts.cache) c.new.result c.in-Ok.node c.in-Ok.is c.new.ensures.fault c.take_bound.ensures.fault

pub returns-clause-none : goal.returns-clause-none
returns-clause-none g c = λ zero plain good. c.take_bound.ensures.none zero plain
