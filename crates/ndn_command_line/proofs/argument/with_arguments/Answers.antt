use Rattle.ndn_command_line.proofs.Commands.{argument_more, arguments_all}
use Rattle.ndn_command_line.proofs.argument.with_arguments.Goals as goal

pub loop-argument-preserved : goal.loop-argument-preserved
loop-argument-preserved c app has =
    argument_more c.args.arguments.now c.loop-argument.argument-index _ c.built.result c.loop-argument.command c.in_ok-command.command app
    c.loop-argument-test.true (c.loop-argument.invariant app has) c.built.ensures c.in_ok-command.ensures

pub returns : goal.returns
returns c app has =
    arguments_all c.args.arguments.now c.loop-argument.argument-index c.loop-argument.command app c.loop-argument-test.false (c.loop-argument.invariant app has)
