use Rattle.ndn_command_line.specs.CommandLine.{tag_app}
use Rattle.ndn_command_line.proofs.subcommand.tag_command.Goals as goal

pub returns : goal.returns
unfolding tag_app
returns c = c.described.ensures
