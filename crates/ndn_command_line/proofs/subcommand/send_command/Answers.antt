use Rattle.ndn_command_line.specs.CommandLine.{send_app}
use Rattle.ndn_command_line.proofs.subcommand.send_command.Goals as goal

pub returns : goal.returns
unfolding send_app
returns c = c.described.ensures
