use Rattle.std.proofs.Common.{map, take}
use Rattle.clap.specs.Simple.{App}
use Rattle.ndn_command_line.specs.CommandLine.{HasApp, rule_for, with_rules}
use Rattle.ndn_command_line.proofs.argument.with_arguments.Given as goal

abbrev pub invariant-loop-argument : goal.invariant-loop-argument
invariant-loop-argument l = (app : App) → HasApp app l.fn.command → HasApp (with_rules app (map rule_for (take l.argument-index l.arguments))) l.command
