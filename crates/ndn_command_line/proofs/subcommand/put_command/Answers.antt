use Rattle.ndn_command_line.specs.CommandLine.{put_app}
use Rattle.ndn_command_line.proofs.subcommand.put_command.Goals as goal

pub returns : goal.returns
unfolding put_app
returns c = c.described.ensures
