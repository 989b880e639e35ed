use Rattle.ndn_command_line.specs.CommandLine.{interest_app}
use Rattle.ndn_command_line.proofs.subcommand.interest_command.Goals as goal

pub returns : goal.returns
unfolding interest_app
returns c = c.described.ensures
