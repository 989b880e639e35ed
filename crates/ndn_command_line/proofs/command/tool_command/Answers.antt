use Rattle.std.proofs.Common.{codes}
use Rattle.ndn_command_line.specs.CommandLine.{tool}
use Rattle.ndn_command_line.proofs.Commands.{described, without_help, wants_one, helps_else, versioned}
use Rattle.ndn_command_line.proofs.command.tool_command.Goals as goal

pub returns : goal.returns
unfolding tool
returns c =
    let start = described (codes "ndn_tool") c.new.result c.about.result c.after_help.result _ _ c.new.ensures.app c.new.ensures.local c.about.ensures c.after_help.ensures in
    let plain = without_help _ c.disable_help_subcommand.result _ _ start c.disable_help_subcommand.ensures in
    let one = wants_one _ c.subcommand_required.result _ _ plain c.subcommand_required.ensures in
    let helping = helps_else _ c.arg_required_else_help.result _ _ one c.arg_required_else_help.ensures in
    let numbered = versioned _ c.version-command.result _ _ helping c.version-command.ensures in
    c.with_subcommands.ensures _ numbered
