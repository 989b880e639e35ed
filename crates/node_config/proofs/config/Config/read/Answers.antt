use Rattle.info_rules.specs.Tree.{blocks_of}
use Rattle.node_config.specs.File.{ConfigOf, EntriesOf}
use Rattle.node_config.specs.Plain.{plain_config}
use Rattle.node_config.proofs.Readings.{meets_then}
use Rattle.node_config.proofs.config.Config.read.Goals as goal

pub returns-clause-meets : goal.returns-clause-meets
returns-clause-meets c =
    meets_then (EntriesOf c.args.octets.now) (λ entries. ConfigOf (blocks_of 0 entries)) plain_config c.in_ok-tree.tree c.in_ok-tree.ensures
    c.read_keys.result (rw c.keys.ensures at c.read_keys.ensures.meets)
