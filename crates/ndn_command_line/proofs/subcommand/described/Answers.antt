use Rattle.ndn_command_line.proofs.Commands.{described}
use Rattle.ndn_command_line.proofs.subcommand.described.Goals as goal

pub returns : goal.returns
returns c =
    let start = described c.args.name.now c.new.result c.about.result c.after_help-command.result _ _ c.new.ensures.app c.new.ensures.local c.about.ensures c.after_help-command.ensures in
    c.with_arguments.ensures _ start
