use Rattle.ndn_command_line.specs.CommandLine.{peek_app}
use Rattle.ndn_command_line.proofs.subcommand.peek_command.Goals as goal

pub returns : goal.returns
unfolding peek_app
returns c = c.described.ensures
