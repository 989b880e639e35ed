use Rattle.ndn_command_line.specs.CommandLine.{show_app}
use Rattle.ndn_command_line.proofs.subcommand.show_command.Goals as goal

pub returns : goal.returns
unfolding show_app
returns c = c.described.ensures
