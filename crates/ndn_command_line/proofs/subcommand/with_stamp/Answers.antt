use Rattle.ndn_command_line.proofs.subcommand.with_stamp.Goals as goal

pub returns : goal.returns
returns c app has = c.with_arguments.ensures app has
