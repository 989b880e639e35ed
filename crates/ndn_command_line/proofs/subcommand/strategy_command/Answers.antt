use Rattle.ndn_command_line.specs.CommandLine.{strategy_app}
use Rattle.ndn_command_line.proofs.subcommand.strategy_command.Goals as goal

pub returns : goal.returns
unfolding strategy_app
returns c = c.with_stamp.ensures _ c.in_ok-command.ensures
