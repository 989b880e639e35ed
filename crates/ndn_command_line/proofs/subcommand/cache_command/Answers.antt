use Rattle.ndn_command_line.specs.CommandLine.{cache_app}
use Rattle.ndn_command_line.proofs.subcommand.cache_command.Goals as goal

pub returns : goal.returns
unfolding cache_app
returns c = c.with_stamp.ensures _ c.in_ok-command.ensures
