use Rattle.ndn_command_line.specs.CommandLine.{explain_app}
use Rattle.ndn_command_line.proofs.subcommand.explain_command.Goals as goal

pub returns : goal.returns
unfolding explain_app
returns c = c.described.ensures
