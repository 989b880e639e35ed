use Rattle.ndn_command_line.specs.CommandLine.{route_app}
use Rattle.ndn_command_line.proofs.subcommand.route_command.Goals as goal

pub returns : goal.returns
unfolding route_app
returns c = c.with_stamp.ensures _ c.in_ok-command.ensures
