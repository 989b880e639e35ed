use Rattle.ndn_command_line.specs.CommandLine.{key_app}
use Rattle.ndn_command_line.proofs.subcommand.key_command.Goals as goal

pub returns : goal.returns
unfolding key_app
returns c = c.described.ensures
