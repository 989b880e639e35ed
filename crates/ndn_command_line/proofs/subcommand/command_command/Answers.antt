use Rattle.ndn_command_line.specs.CommandLine.{command_app}
use Rattle.ndn_command_line.proofs.subcommand.command_command.Goals as goal

pub returns : goal.returns
unfolding command_app
returns c = c.described.ensures
