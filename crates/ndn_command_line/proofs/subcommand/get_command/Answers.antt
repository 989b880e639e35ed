use Rattle.ndn_command_line.specs.CommandLine.{get_app}
use Rattle.ndn_command_line.proofs.subcommand.get_command.Goals as goal

pub returns : goal.returns
unfolding get_app
returns c = c.described.ensures
