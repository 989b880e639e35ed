use Rattle.node_config.proofs.SureFiles.{sure_file}
use Rattle.node_config.proofs.reader.configurations_have_one_reading.Goals as goal

pub returns : goal.returns
returns c = sure_file
