use Rattle.info_rules.proofs.FaultPlaces.{faults_stand}
use Rattle.info_rules.proofs.tree_reader.faults_stand_at_their_line.Goals as goal

pub returns : goal.returns
returns c = faults_stand
