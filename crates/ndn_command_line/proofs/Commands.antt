-- How the calls that build a command change the rules by which `clap` parses the command.
use Rattle.std.proofs.Common.{◌≡◌, ◌<◌, ◌+◌, ◌≤◌, ℕ, List, [], ◌∷◌, ◌++◌, length, get_or, take, map, Option, Some, Bool, true, false, refl, sym, ap, ap₂, subst, ◌∙◌, ◌||◌}
use Rattle.std.proofs.lemmas.List.{get_or_default, take_more, map-append, take_all}
use Rattle.std.specs.Borrow.{Bor}
use Rattle.clap.specs.declared.builder.arg.Arg.{Arg}
use Rattle.clap.specs.declared.builder.command.Command.{Command}
use Rattle.clap.specs.declared.builder.command.Command.TheViews.{out-Command}
use Rattle.clap.specs.Walk.{Rule}
use Rattle.clap.specs.Simple.{App, Shape, app_of, app_of_fields, new_app, on_top, with_rule, with_subcommand}
use Rattle.clap.specs.Built.{AddsArg, AddsSubcommand}
use Rattle.ndn_command_line.specs.declared.argument.Argument.{Argument}
use Rattle.ndn_command_line.specs.declared.subcommand.Subcommand.{Subcommand}
use Rattle.ndn_command_line.specs.CommandLine.{HasApp, HasRule, rule_for, app_for, with_rules, with_subcommands}

-- adding help texts to a new command does not change how the command is parsed
pub described : (name : List ℕ) (new about help : Command) (a h : Option (Bor (List ℕ))) → app_of new ≡ new_app name → (out-Command new).has_globals ≡ false
    → out-Command about ≡ record (out-Command new) { about = a } → out-Command help ≡ record (out-Command about) { after_help = h } → HasApp (new_app name) help
described name new about help a h app local e d =
    (ap app_of_fields d ∙ (ap app_of_fields e ∙ app), ap (λ f. f.has_globals) d ∙ (ap (λ f. f.has_globals) e ∙ local))

pub without_help : (old new : Command) (app : App) (on : Bool) → HasApp app old → out-Command new ≡ record (out-Command old) { disable_help_subcommand = on }
    → HasApp (on_top (λ (s : Shape). record s { disable_help_subcommand = on }) app) new
without_help old new app on c e =
    (ap app_of_fields e ∙ ap (on_top (λ (s : Shape). record s { disable_help_subcommand = on })) c.0, ap (λ f. f.has_globals) e ∙ c.1)

pub wants_one : (old new : Command) (app : App) (on : Bool) → HasApp app old → out-Command new ≡ record (out-Command old) { subcommand_required = on }
    → HasApp (on_top (λ (s : Shape). record s { subcommand_required = on }) app) new
wants_one old new app on c e =
    (ap app_of_fields e ∙ ap (on_top (λ (s : Shape). record s { subcommand_required = on })) c.0, ap (λ f. f.has_globals) e ∙ c.1)

pub helps_else : (old new : Command) (app : App) (on : Bool) → HasApp app old → out-Command new ≡ record (out-Command old) { arg_required_else_help = on }
    → HasApp (on_top (λ (s : Shape). record s { arg_required_else_help = on }) app) new
helps_else old new app on c e =
    (ap app_of_fields e ∙ ap (on_top (λ (s : Shape). record s { arg_required_else_help = on })) c.0, ap (λ f. f.has_globals) e ∙ c.1)

pub versioned : (old new : Command) (app : App) (text : Bor (List ℕ)) → HasApp app old → out-Command new ≡ record (out-Command old) { version = Some text }
    → HasApp (on_top (λ (s : Shape). record s { has_version = true }) app) new
versioned old new app text c e =
    (ap app_of_fields e ∙ ap (on_top (λ (s : Shape). record s { has_version = true })) c.0, ap (λ f. f.has_globals) e ∙ c.1)

pub added : (old : Command) (arg : Arg) (new : Command) (app : App) (rule : Rule) → HasApp app old → HasRule rule arg → AddsArg old arg new → HasApp (with_rule app rule) new
added old arg new app rule c r adds = (adds.shape r.1 ∙ ap₂ with_rule c.0 r.0, adds.globals ∙ ap₂ (λ a b. a || b) c.1 r.1)

pub added_below : (old sub new : Command) (app below : App) → HasApp app old → HasApp below sub → AddsSubcommand old sub new → HasApp (with_subcommand app below.top) new
added_below old sub new app below c s adds =
    (adds.shape s.1 ∙ ap₂ with_subcommand c.0 (ap (λ (a : App). a.top) s.0), adds.globals ∙ ap₂ (λ a b. a || b) c.1 s.1)

-- adding a list of rules and then one more rule is the same as adding the list with this rule at
-- its end
pub rules_then : (app : App) (rules : List Rule) (rule : Rule) → with_rules app (rules ++ rule ∷ []) ≡ with_rule (with_rules app rules) rule
rules_then app [] rule = refl
rules_then app (r ∷ rules) rule = rules_then (with_rule app r) rules rule

pub subcommands_then : (app : App) (apps : List App) (below : App) → with_subcommands app (apps ++ below ∷ []) ≡ with_subcommand (with_subcommands app apps) below.top
subcommands_then app [] below = refl
subcommands_then app (a ∷ apps) below = subcommands_then (with_subcommand app a.top) apps below

map_more : {A B : Type 0} (f : A → B) (xs : List A) (n : ℕ) (x : A) → n < length xs → x ≡ get_or xs n x → map f (take (n + 1) xs) ≡ map f (take n xs) ++ f x ∷ []
map_more f xs n x low is =
    ap (map f) (take_more xs n x low) ∙ (map-append f (take n xs) (get_or xs n x ∷ []) ∙ ap (λ y. map f (take n xs) ++ f y ∷ []) (sym is))

-- a step of the loop in `with_arguments` adds the argument at index `n`
pub argument_more : (arguments : List Argument) (n : ℕ) (other : Argument) (arg : Arg) (old new : Command) (app : App) → n < length arguments
    → HasApp (with_rules app (map rule_for (take n arguments))) old → HasRule (rule_for (get_or arguments n other)) arg → AddsArg old arg new
    → HasApp (with_rules app (map rule_for (take (n + 1) arguments))) new
argument_more arguments n other arg old new app low c r adds =
    let argument = get_or arguments n other in
    let more = ap (with_rules app) (map_more rule_for arguments n argument low (get_or_default arguments n other argument low)) ∙ rules_then app (map rule_for (take n arguments)) (rule_for argument) in
    subst (λ (a : App). HasApp a new) (sym more) (added old arg new _ _ c r adds)

-- a step of the loop in `with_subcommands` adds the subcommand at index `n`
pub subcommand_more : (subcommands : List Subcommand) (n : ℕ) (other : Subcommand) (sub old new : Command) (app : App) → n < length subcommands
    → HasApp (with_subcommands app (map app_for (take n subcommands))) old → HasApp (app_for (get_or subcommands n other)) sub → AddsSubcommand old sub new
    → HasApp (with_subcommands app (map app_for (take (n + 1) subcommands))) new
subcommand_more subcommands n other sub old new app low c r adds =
    let subcommand = get_or subcommands n other in
    let more = ap (with_subcommands app) (map_more app_for subcommands n subcommand low (get_or_default subcommands n other subcommand low)) ∙ subcommands_then app (map app_for (take n subcommands)) (app_for subcommand) in
    subst (λ (a : App). HasApp a new) (sym more) (added_below old sub new _ _ c r adds)

-- at the end of the loop in `with_arguments`, all arguments have been added
pub arguments_all : (arguments : List Argument) (n : ℕ) (new : Command) (app : App) → length arguments ≤ n → HasApp (with_rules app (map rule_for (take n arguments))) new → HasApp (with_rules app (map rule_for arguments)) new
arguments_all arguments n new app past h = subst (λ (xs : List Argument). HasApp (with_rules app (map rule_for xs)) new) (take_all n arguments past) h

-- at the end of the loop in `with_subcommands`, all subcommands have been added
pub subcommands_all : (subcommands : List Subcommand) (n : ℕ) (new : Command) (app : App) → length subcommands ≤ n → HasApp (with_subcommands app (map app_for (take n subcommands))) new → HasApp (with_subcommands app (map app_for subcommands)) new
subcommands_all subcommands n new app past h = subst (λ (xs : List Subcommand). HasApp (with_subcommands app (map app_for xs)) new) (take_all n subcommands past) h
