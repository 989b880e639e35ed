use Rattle.ndn_command_line.specs.CommandLine.{data_app}
use Rattle.ndn_command_line.proofs.subcommand.data_command.Goals as goal

pub returns : goal.returns
unfolding data_app
returns c = c.described.ensures
