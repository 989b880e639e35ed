-- The rules by which `clap` parses the program's command line.
use Rattle.std.specs.Prelude.{◌≡◌, ℕ, List, [], ◌∷◌, Option, None, Some, true, false, codes, bytes_eq, if◌then◌else◌}
use Rattle.clap.specs.declared.builder.action.ArgAction.TheVariants.{SetTrue}
use Rattle.clap.specs.declared.builder.arg.Arg.{Arg}
use Rattle.clap.specs.declared.builder.command.Command.{Command}
use Rattle.clap.specs.declared.builder.command.Command.TheViews.{out-Command}
use Rattle.clap.specs.Walk.{Rule, rule_of}
use Rattle.clap.specs.Simple.{App, app_of, new_app, new_rule, new_shape, with_rule, with_subcommand}
use Rattle.ndn_command_line.specs.declared.argument.Argument.{Argument}
use Rattle.ndn_command_line.specs.declared.argument.Argument.TheVariants.{Positional, MaybePositional, Optional, Required, Flag}
use Rattle.ndn_command_line.specs.declared.subcommand.Subcommand.{Subcommand}
use Rattle.ndn_command_line.specs.declared.subcommand.Subcommand.TheVariants.{Interest, Data, Command as AnyCommand, Route, Strategy, Cache, Repository, Tag, Show, Explain, Send, Peek, Get, Put, Key}

-- ---- arguments

-- a positional argument that is required
abbrev pub a_positional : List ℕ → Rule
a_positional id = record (new_rule id) { required = true }

-- a positional argument that is optional
abbrev pub an_optional_positional : List ℕ → Rule
an_optional_positional id = new_rule id

-- an option with a value
abbrev pub an_option : List ℕ → Rule
an_option id = record (new_rule id) { long = Some id; value_names = 1 }

abbrev pub a_required_option : List ℕ → Rule
a_required_option id = record (new_rule id) { long = Some id; value_names = 1; required = true }

-- an option without a value
abbrev pub a_flag : List ℕ → Rule
a_flag id = record (new_rule id) { long = Some id; action = Some SetTrue }

-- the rule for an argument
abbrev pub rule_for : Argument → Rule
rule_for (Positional id help) = a_positional id.now
rule_for (MaybePositional id help) = an_optional_positional id.now
rule_for (Optional id value help) = an_option id.now
rule_for (Required id value help) = a_required_option id.now
rule_for (Flag id help) = a_flag id.now

-- ---- commands

-- the command with these arguments added, in order
abbrev pub with_rules : App → List Rule → App
with_rules app [] = app
with_rules app (rule ∷ rules) = with_rules (with_rule app rule) rules

-- the command with these subcommands added, in order
abbrev pub with_subcommands : App → List App → App
with_subcommands app [] = app
with_subcommands app (below ∷ more) = with_subcommands (with_subcommand app below.top) more

-- a subcommand with its arguments
abbrev pub a_subcommand : List ℕ → List Rule → App
a_subcommand name rules = with_rules (new_app name) rules

unfoldable pub interest_app : App
interest_app = a_subcommand (codes "interest") (
    a_positional (codes "URI")
    ∷ a_required_option (codes "nonce")
    ∷ a_flag (codes "can-be-prefix")
    ∷ a_flag (codes "must-be-fresh")
    ∷ an_option (codes "lifetime")
    ∷ an_option (codes "hop-limit")
    ∷ an_option (codes "parameters")
    ∷ an_option (codes "time")
    ∷ an_option (codes "seq")
    ∷ an_option (codes "keys")
    ∷ an_option (codes "key")
    ∷ an_option (codes "token")
    ∷ [])

unfoldable pub data_app : App
data_app = a_subcommand (codes "data") (
    a_positional (codes "URI")
    ∷ an_option (codes "content")
    ∷ an_option (codes "freshness")
    ∷ an_option (codes "keys")
    ∷ an_option (codes "key")
    ∷ [])

unfoldable pub command_app : App
command_app = a_subcommand (codes "command") (
    a_positional (codes "URI")
    ∷ a_required_option (codes "name")
    ∷ a_required_option (codes "nonce")
    ∷ a_required_option (codes "time")
    ∷ an_option (codes "seq")
    ∷ an_option (codes "face")
    ∷ an_option (codes "cost")
    ∷ an_option (codes "strategy")
    ∷ an_option (codes "flags")
    ∷ an_option (codes "expires")
    ∷ an_option (codes "origin")
    ∷ an_option (codes "count")
    ∷ an_option (codes "lifetime")
    ∷ a_flag (codes "can-be-prefix")
    ∷ an_option (codes "keys")
    ∷ an_option (codes "key")
    ∷ [])

-- the command with the options of a stamp: time, Nonce, sequence number, key, ports and timeout
abbrev pub stamped : App → App
stamped app = with_rules app (
    an_option (codes "time")
    ∷ an_option (codes "nonce")
    ∷ an_option (codes "seq")
    ∷ an_option (codes "keys")
    ∷ an_option (codes "key")
    ∷ an_option (codes "send")
    ∷ an_option (codes "from")
    ∷ an_option (codes "timeout")
    ∷ [])

unfoldable pub route_app : App
route_app = stamped (a_subcommand (codes "route") (
    a_positional (codes "VERB")
    ∷ an_optional_positional (codes "PREFIX")
    ∷ an_option (codes "face")
    ∷ an_option (codes "cost")
    ∷ an_option (codes "flags")
    ∷ an_option (codes "expires")
    ∷ an_option (codes "origin")
    ∷ []))

unfoldable pub strategy_app : App
strategy_app = stamped (a_subcommand (codes "strategy") (
    a_positional (codes "VERB")
    ∷ an_optional_positional (codes "PREFIX")
    ∷ an_optional_positional (codes "STRATEGY")
    ∷ []))

unfoldable pub cache_app : App
cache_app = stamped (a_subcommand (codes "cache") (
    a_positional (codes "VERB")
    ∷ a_positional (codes "PREFIX")
    ∷ an_option (codes "count")
    ∷ []))

unfoldable pub repository_app : App
repository_app = stamped (a_subcommand (codes "repo") (
    a_positional (codes "VERB")
    ∷ a_positional (codes "PREFIX")
    ∷ a_positional (codes "NAME")
    ∷ a_flag (codes "can-be-prefix")
    ∷ an_option (codes "lifetime")
    ∷ []))

unfoldable pub tag_app : App
tag_app = a_subcommand (codes "tag") (
    a_positional (codes "HEX")
    ∷ a_required_option (codes "keys")
    ∷ a_required_option (codes "key")
    ∷ [])

unfoldable pub show_app : App
show_app = a_subcommand (codes "show") (a_positional (codes "HEX") ∷ [])

unfoldable pub explain_app : App
explain_app = a_subcommand (codes "explain") (
    a_positional (codes "HEX")
    ∷ an_option (codes "keys")
    ∷ [])

unfoldable pub send_app : App
send_app = a_subcommand (codes "send") (
    a_positional (codes "HEX")
    ∷ a_required_option (codes "to")
    ∷ an_option (codes "from")
    ∷ an_option (codes "timeout")
    ∷ [])

unfoldable pub peek_app : App
peek_app = a_subcommand (codes "peek") (
    a_positional (codes "URI")
    ∷ a_flag (codes "can-be-prefix")
    ∷ a_flag (codes "must-be-fresh")
    ∷ an_option (codes "lifetime")
    ∷ an_option (codes "nonce")
    ∷ a_flag (codes "raw")
    ∷ an_option (codes "to")
    ∷ an_option (codes "from")
    ∷ an_option (codes "timeout")
    ∷ an_option (codes "retries")
    ∷ an_option (codes "keys")
    ∷ a_flag (codes "unverified")
    ∷ [])

unfoldable pub get_app : App
get_app = a_subcommand (codes "get") (
    a_positional (codes "URI")
    ∷ a_required_option (codes "to")
    ∷ an_option (codes "from")
    ∷ an_option (codes "output")
    ∷ an_option (codes "lifetime")
    ∷ an_option (codes "retries")
    ∷ an_option (codes "keys")
    ∷ [])

unfoldable pub put_app : App
put_app = a_subcommand (codes "put") (
    a_positional (codes "FILE")
    ∷ a_positional (codes "URI")
    ∷ a_required_option (codes "repo")
    ∷ a_required_option (codes "to")
    ∷ an_option (codes "from")
    ∷ an_option (codes "freshness")
    ∷ an_option (codes "retries")
    ∷ an_option (codes "keys")
    ∷ an_option (codes "key")
    ∷ [])

unfoldable pub key_app : App
key_app = a_subcommand (codes "key") (
    a_positional (codes "VERB")
    ∷ a_positional (codes "FILE")
    ∷ [])

-- ---- the subcommands by name

abbrev pub app_for : Subcommand → App
app_for Interest = interest_app
app_for Data = data_app
app_for AnyCommand = command_app
app_for Route = route_app
app_for Strategy = strategy_app
app_for Cache = cache_app
app_for Repository = repository_app
app_for Tag = tag_app
app_for Show = show_app
app_for Explain = explain_app
app_for Send = send_app
app_for Peek = peek_app
app_for Get = get_app
app_for Put = put_app
app_for Key = key_app

abbrev pub subcommand_named : List ℕ → Option Subcommand
subcommand_named word =
    if bytes_eq word (codes "interest") then Some Interest else (
    if bytes_eq word (codes "data") then Some Data else (
    if bytes_eq word (codes "command") then Some AnyCommand else (
    if bytes_eq word (codes "route") then Some Route else (
    if bytes_eq word (codes "strategy") then Some Strategy else (
    if bytes_eq word (codes "cache") then Some Cache else (
    if bytes_eq word (codes "repo") then Some Repository else (
    if bytes_eq word (codes "tag") then Some Tag else (
    if bytes_eq word (codes "show") then Some Show else (
    if bytes_eq word (codes "explain") then Some Explain else (
    if bytes_eq word (codes "send") then Some Send else (
    if bytes_eq word (codes "peek") then Some Peek else (
    if bytes_eq word (codes "get") then Some Get else (
    if bytes_eq word (codes "put") then Some Put else (
    if bytes_eq word (codes "key") then Some Key else
    None))))))))))))))

-- The command of the program. It has a version and requires a subcommand. If there are no
-- arguments, the help is shown. No subcommand is named `help`.
unfoldable pub tool : App
tool = record {
  top = record (new_shape (codes "ndn_tool")) {
    is_leaf = false;
    has_version = true;
    disable_help_subcommand = true;
    subcommand_required = true;
    arg_required_else_help = true;
  };
  subs =
      interest_app.top ∷ data_app.top ∷ command_app.top ∷ route_app.top ∷ strategy_app.top
      ∷ cache_app.top ∷ repository_app.top ∷ tag_app.top ∷ show_app.top
      ∷ explain_app.top ∷ send_app.top ∷ peek_app.top ∷ get_app.top
      ∷ put_app.top ∷ key_app.top ∷ [];
}

-- ---- the commands that are built

-- `clap` parses the command by the rules `app`, and the command's subcommands do not share the
-- command's arguments
abbrev pub HasApp : App → Command → Type 0
HasApp app command = (app_of command ≡ app) × ((out-Command command).has_globals ≡ false)

-- the argument is parsed by this rule, and subcommands do not share the argument
abbrev pub HasRule : Rule → Arg → Type 0
HasRule rule arg = (rule_of arg ≡ rule) × (arg.global ≡ false)
