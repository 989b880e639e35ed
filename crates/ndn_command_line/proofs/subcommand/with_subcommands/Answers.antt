use Rattle.ndn_command_line.proofs.Commands.{subcommand_more, subcommands_all}
use Rattle.ndn_command_line.proofs.subcommand.with_subcommands.Goals as goal

pub loop-subcommand-preserved : goal.loop-subcommand-preserved
loop-subcommand-preserved c app has =
    subcommand_more c.args.subcommands.now c.loop-subcommand.subcommand-index _ c.in_ok-command.field-0 c.loop-subcommand.command c.in_ok-command-2.command app
    c.loop-subcommand-test.true (c.loop-subcommand.invariant app has) c.in_ok-command.ensures c.in_ok-command-2.ensures

pub returns : goal.returns
returns c app has =
    subcommands_all c.args.subcommands.now c.loop-subcommand.subcommand-index c.loop-subcommand.command app c.loop-subcommand-test.false (c.loop-subcommand.invariant app has)
