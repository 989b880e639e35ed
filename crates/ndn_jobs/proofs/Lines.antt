-- How the job or the fault of a command line follows from the result of the command-line parser.
use Rattle.std.proofs.Common.{◌≡◌, ◌≢◌, ℕ, List, [], drop, Option, None, Some, Result, Ok, Err, MatchResult, true, refl, sym, ap, subst, inl, inr, ◌∙◌}
use Rattle.clap.specs.declared.error.Error.{Error}
use Rattle.clap.specs.declared.error.kind.ErrorKind.{ErrorKind}
use Rattle.clap.specs.declared.error.kind.ErrorKind.TheVariants as kind
use Rattle.clap.specs.declared.parser.matches.ArgMatches.{ArgMatches}
use Rattle.clap.specs.Words.{kind_of, is_simple}
use Rattle.clap.specs.Walk.{Row}
use Rattle.clap.specs.Simple.{App, HasMatchesOf, subcommand_of, subcommand_rows_of}
use Rattle.clap.specs.Faults.{fault_of, is_simple_and_free}
use Rattle.clap.specs.Kinds.{HasKind, IsAmong}
use Rattle.ndn_jobs.specs.declared.job.Job.{Job}
use Rattle.ndn_jobs.specs.declared.job.Job.TheVariants.{Help, Interest, Data, Command, Tag, Show, Explain, Send, Ask, Get, Put, Key}
use Rattle.ndn_command_line.specs.declared.subcommand.Subcommand.{Subcommand}
use Rattle.ndn_command_line.specs.declared.subcommand.Subcommand.TheVariants as sub
use Rattle.ndn_jobs.specs.declared.fault.Usage.TheVariants.{CommandLine, BadValue}
use Rattle.ndn_jobs.specs.declared.fault.ToolFault.{ToolFault}
use Rattle.ndn_jobs.specs.declared.fault.ToolFault.TheVariants as fault
use Rattle.ndn_jobs.specs.Value.{ReadsInMemory}
use Rattle.ndn_jobs.specs.Nonce.{seed_of}
use Rattle.ndn_command_line.specs.CommandLine.{subcommand_named, tool}
use Rattle.ndn_command_line.proofs.Simple.{simple, simple_and_free}
use Rattle.ndn_jobs.specs.Command.{reading_of, faults, IsJob, IsFoundJob, IsJobOf, Asks, IsText, IsWrongLine, IsRefusedLine}

-- ---- the case that the parser returns an error

module _ (now : ℕ) (random : List ℕ) (arguments : List (List ℕ)) (error : Error) (has : HasKind (faults arguments) error) where
  is_no_text : (k : ErrorKind) → kind_of error ≡ k → k ≢ kind.DisplayHelp → k ≢ kind.DisplayVersion → IsText (kind_of error) → ⊥
  is_no_text k e help version (inl d) = help (sym e ∙ d)
  is_no_text k e help version (inr d) = version (sym e ∙ d)

  is_wrong : (k : ErrorKind) → kind_of error ≡ k → k ≢ kind.DisplayHelp → k ≢ kind.DisplayVersion → k ≢ kind.OutOfMemory → IsWrongLine now random arguments (CommandLine error)
  is_wrong k e help version memory = elim has [
    | inl m ↦ absurd (memory (sym e ∙ m))
    | inr among ↦ (among, is_no_text k e help version)
  ]

  is_asked : (k : ErrorKind) → kind_of error ≡ k → k ≢ kind.OutOfMemory → IsAmong (kind_of error) (faults arguments)
  is_asked k e memory = elim has [
    | inl m ↦ absurd (memory (sym e ∙ m))
    | inr among ↦ among
  ]

  answered_as : (k : ErrorKind) → kind_of error ≡ k → MatchResult (reading_of k error) (Asks now random arguments) (IsRefusedLine now random arguments)
  answered_as kind.InvalidValue e = is_wrong _ e (λ x. cc) (λ x. cc) (λ x. cc)
  answered_as kind.UnknownArgument e = is_wrong _ e (λ x. cc) (λ x. cc) (λ x. cc)
  answered_as kind.InvalidSubcommand e = is_wrong _ e (λ x. cc) (λ x. cc) (λ x. cc)
  answered_as kind.NoEquals e = is_wrong _ e (λ x. cc) (λ x. cc) (λ x. cc)
  answered_as kind.ValueValidation e = is_wrong _ e (λ x. cc) (λ x. cc) (λ x. cc)
  answered_as kind.TooManyValues e = is_wrong _ e (λ x. cc) (λ x. cc) (λ x. cc)
  answered_as kind.TooFewValues e = is_wrong _ e (λ x. cc) (λ x. cc) (λ x. cc)
  answered_as kind.WrongNumberOfValues e = is_wrong _ e (λ x. cc) (λ x. cc) (λ x. cc)
  answered_as kind.ArgumentConflict e = is_wrong _ e (λ x. cc) (λ x. cc) (λ x. cc)
  answered_as kind.MissingRequiredArgument e = is_wrong _ e (λ x. cc) (λ x. cc) (λ x. cc)
  answered_as kind.MissingSubcommand e = is_wrong _ e (λ x. cc) (λ x. cc) (λ x. cc)
  answered_as kind.DisplayHelp e = (inl e, is_asked _ e (λ x. cc))
  answered_as kind.DisplayHelpOnMissingArgumentOrSubcommand e = is_wrong _ e (λ x. cc) (λ x. cc) (λ x. cc)
  answered_as kind.DisplayVersion e = (inr e, is_asked _ e (λ x. cc))
  answered_as kind.Io e = is_wrong _ e (λ x. cc) (λ x. cc) (λ x. cc)
  answered_as kind.Format e = is_wrong _ e (λ x. cc) (λ x. cc) (λ x. cc)
  answered_as kind.OutOfMemory e = tt

  pub answered_error : MatchResult (reading_of (kind_of error) error) (Asks now random arguments) (IsRefusedLine now random arguments)
  answered_error = answered_as (kind_of error) refl

-- ---- the case that the parser returns matches

no_help_of : (now : ℕ) (seed name : List ℕ) (rows : List Row) (error : Error) (found : Option Subcommand) → IsFoundJob found now seed name rows (Help error) → ⊥
no_help_of now seed name rows error None h = h
no_help_of now seed name rows error (Some sub.Interest) h = h
no_help_of now seed name rows error (Some sub.Data) h = h
no_help_of now seed name rows error (Some sub.Command) h = h
no_help_of now seed name rows error (Some sub.Route) h = h
no_help_of now seed name rows error (Some sub.Strategy) h = h
no_help_of now seed name rows error (Some sub.Cache) h = h
no_help_of now seed name rows error (Some sub.Repository) h = h
no_help_of now seed name rows error (Some sub.Tag) h = h
no_help_of now seed name rows error (Some sub.Show) h = h
no_help_of now seed name rows error (Some sub.Explain) h = h
no_help_of now seed name rows error (Some sub.Send) h = h
no_help_of now seed name rows error (Some sub.Peek) h = h
no_help_of now seed name rows error (Some sub.Get) h = h
no_help_of now seed name rows error (Some sub.Put) h = h
no_help_of now seed name rows error (Some sub.Key) h = h

no_help : (now : ℕ) (seed : List ℕ) (used : Option (List ℕ × List Row)) (error : Error) → IsJob now seed used (Help error) → ⊥
no_help now seed None error h = h
no_help now seed (Some used) error h = no_help_of now seed used.0 used.1 error (subcommand_named used.0) h

pub asked : (now : ℕ) (random : List ℕ) (arguments : List (List ℕ)) → faults arguments ≡ [] → (r : Result Job ToolFault) → ReadsInMemory (IsJobOf now random arguments) r → MatchResult r (Asks now random arguments) (IsRefusedLine now random arguments)
asked now random arguments none (Ok (Help error)) h = absurd (no_help now (seed_of random (drop 1 arguments)) (subcommand_of tool arguments) error h)
asked now random arguments none (Ok (Interest job)) h = (none, h)
asked now random arguments none (Ok (Data job)) h = (none, h)
asked now random arguments none (Ok (Command job)) h = (none, h)
asked now random arguments none (Ok (Tag job)) h = (none, h)
asked now random arguments none (Ok (Show octets)) h = (none, h)
asked now random arguments none (Ok (Explain job)) h = (none, h)
asked now random arguments none (Ok (Send job)) h = (none, h)
asked now random arguments none (Ok (Ask job)) h = (none, h)
asked now random arguments none (Ok (Get job)) h = (none, h)
asked now random arguments none (Ok (Put job)) h = (none, h)
asked now random arguments none (Ok (Key job)) h = (none, h)
asked now random arguments none (Err (fault.Usage (CommandLine error))) h = absurd h
asked now random arguments none (Err (fault.Usage (BadValue place wanted))) h = (none, h)
asked now random arguments none (Err fault.NoKey) h = h
asked now random arguments none (Err (fault.Write why)) h = h
asked now random arguments none (Err (fault.Packet why)) h = h
asked now random arguments none (Err fault.Memory) h = tt

module _ (now : ℕ) (random : List ℕ) (arguments : List (List ℕ)) (app : App) (is_tool : app ≡ tool) where
  free : is_simple_and_free app ≡ true
  free = ap is_simple_and_free is_tool ∙ simple_and_free

  pub from_matches : (m : ArgMatches) (r : Result Job ToolFault) → HasMatchesOf app arguments m → (is_simple_and_free app ≡ true → fault_of app arguments ≡ [])
      → ReadsInMemory (IsJob now (seed_of random (drop 1 arguments)) (subcommand_rows_of m)) r → MatchResult r (Asks now random arguments) (IsRefusedLine now random arguments)
  from_matches m r has none h =
      let used : subcommand_rows_of m ≡ subcommand_of tool arguments = (has (ap is_simple is_tool ∙ simple)).1 ∙ ap (λ (a : App). subcommand_of a arguments) is_tool in
      let clear : faults arguments ≡ [] = ap (λ (a : App). fault_of a arguments) (sym is_tool) ∙ none free in
      asked now random arguments clear r (subst (λ (u : Option (List ℕ × List Row)). ReadsInMemory (IsJob now (seed_of random (drop 1 arguments)) u) r) used h)

  pub from_error : (error : Error) → (is_simple_and_free app ≡ true → HasKind (fault_of app arguments) error)
      → MatchResult (reading_of (kind_of error) error) (Asks now random arguments) (IsRefusedLine now random arguments)
  from_error error has = answered_error now random arguments error (subst (λ (a : App). HasKind (fault_of a arguments) error) is_tool (has free))
