use Rattle.ndn_command_line.specs.CommandLine.{repository_app}
use Rattle.ndn_command_line.proofs.subcommand.repository_command.Goals as goal

pub returns : goal.returns
unfolding repository_app
returns c = c.with_stamp.ensures _ c.in_ok-command.ensures
