use Rattle.std.proofs.Common.{map, take}
use Rattle.clap.specs.Simple.{App}
use Rattle.ndn_command_line.specs.CommandLine.{HasApp, app_for, with_subcommands}
use Rattle.ndn_command_line.proofs.subcommand.with_subcommands.Given as goal

abbrev pub invariant-loop-subcommand : goal.invariant-loop-subcommand
invariant-loop-subcommand l = (app : App) → HasApp app l.fn.command → HasApp (with_subcommands app (map app_for (take l.subcommand-index l.subcommands))) l.command
