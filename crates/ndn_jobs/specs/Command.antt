-- The job of a command line, and which command lines are refused.
use Rattle.std.specs.Prelude.{◌≡◌, ◌⊎◌, ℕ, true, false, List, [], drop, Option, None, Some, Result, Ok, Err, ⊤}
use Rattle.clap.specs.Walk.{Row}
use Rattle.clap.specs.Words.{kind_of}
use Rattle.clap.specs.Simple.{subcommand_of}
use Rattle.clap.specs.Faults.{fault_of}
use Rattle.clap.specs.Kinds.{Kinds, IsAmong}
use Rattle.clap.specs.declared.error.Error.{Error}
use Rattle.clap.specs.declared.error.kind.ErrorKind.{ErrorKind}
use Rattle.clap.specs.declared.error.kind.ErrorKind.TheVariants.{DisplayHelp, DisplayVersion, OutOfMemory}
use Rattle.ndn_jobs.specs.declared.job.Job.{Job}
use Rattle.ndn_jobs.specs.declared.job.Job.TheVariants.{Help, Interest, Data, Command, Tag, Show, Explain, Send, Ask, Get, Put, Key}
use Rattle.ndn_command_line.specs.declared.subcommand.Subcommand.{Subcommand}
use Rattle.ndn_command_line.specs.declared.subcommand.Subcommand.TheVariants as sub
use Rattle.ndn_jobs.specs.declared.fault.Usage.{Usage as WrongUsage}
use Rattle.ndn_jobs.specs.declared.fault.Usage.TheVariants.{CommandLine, BadValue}
use Rattle.ndn_jobs.specs.declared.fault.ToolFault.{ToolFault}
use Rattle.ndn_jobs.specs.declared.fault.ToolFault.TheVariants.{Usage, Memory}
use Rattle.ndn_jobs.specs.Options.{IsLinkJob, IsDataJob, IsCommandJob, IsTagJob, IsShowJob, IsExplainJob, IsSendJob}
use Rattle.ndn_jobs.specs.ShortForm.{IsShortJob}
use Rattle.ndn_jobs.specs.RepositoryForm.{IsRepositoryJob}
use Rattle.ndn_jobs.specs.Ask.{is_list, IsListJob, IsPeekJob}
use Rattle.ndn_jobs.specs.Get.{IsGetJob}
use Rattle.ndn_jobs.specs.Put.{IsPutJob}
use Rattle.ndn_jobs.specs.Key.{IsKeyJob}
use Rattle.ndn_jobs.specs.Nonce.{seed_of}
use Rattle.ndn_command_line.specs.CommandLine.{subcommand_named, tool}

-- what a parser error means: the command line asks for help or for the version, memory ran out, or
-- the command line is wrong
abbrev pub reading_of : ErrorKind → Error → Result Job ToolFault
reading_of DisplayHelp error = Ok (Help error)
reading_of DisplayVersion error = Ok (Help error)
reading_of OutOfMemory error = Err Memory
reading_of kind error = Err (Usage (CommandLine error))

-- ---- jobs

-- the job of a subcommand whose verb may be `list`: a request for the list if the verb is `list`,
-- otherwise a command
abbrev pub IsListedJob : ℕ → List ℕ → List ℕ → List Row → Job → Type 0
IsListedJob now seed name rows (Command job) =
    (is_list rows ≡ false) × IsShortJob now seed name rows job
IsListedJob now seed name rows (Ask job) =
    (is_list rows ≡ true) × IsListJob now seed name rows job
IsListedJob now seed name rows job = ⊥

-- The job that the options `rows` of a subcommand describe. `name` is the subcommand's name, `now`
-- is the time, and `seed` is what a Nonce is computed from (`seed_of`). The subcommands `route`,
-- `strategy`, `cache` and `repo` are short forms of the subcommand `command`. But the subcommands
-- `route` and `strategy` with the verb `list` request a list.
abbrev pub IsJobFor : Subcommand → ℕ → List ℕ → List ℕ → List Row → Job → Type 0
IsJobFor sub.Interest now seed name rows (Interest job) = IsLinkJob rows job
IsJobFor sub.Data now seed name rows (Data job) = IsDataJob rows job
IsJobFor sub.Command now seed name rows (Command job) = IsCommandJob rows job
IsJobFor sub.Route now seed name rows job = IsListedJob now seed name rows job
IsJobFor sub.Strategy now seed name rows job = IsListedJob now seed name rows job
IsJobFor sub.Cache now seed name rows (Command job) = IsShortJob now seed name rows job
IsJobFor sub.Repository now seed name rows (Command job) = IsRepositoryJob now seed rows job
IsJobFor sub.Tag now seed name rows (Tag job) = IsTagJob rows job
IsJobFor sub.Show now seed name rows (Show octets) = IsShowJob rows octets
IsJobFor sub.Explain now seed name rows (Explain job) = IsExplainJob rows job
IsJobFor sub.Send now seed name rows (Send job) = IsSendJob rows job
IsJobFor sub.Peek now seed name rows (Ask job) = IsPeekJob now seed rows job
IsJobFor sub.Get now seed name rows (Get job) = IsGetJob now seed rows job
IsJobFor sub.Put now seed name rows (Put job) = IsPutJob now seed rows job
IsJobFor sub.Key now seed name rows (Key job) = IsKeyJob rows job
IsJobFor subcommand now seed name rows job = ⊥

abbrev pub IsFoundJob : Option Subcommand → ℕ → List ℕ → List ℕ → List Row → Job → Type 0
IsFoundJob None now seed name rows job = ⊥
IsFoundJob (Some subcommand) now seed name rows job = IsJobFor subcommand now seed name rows job

-- the job of the subcommand with this name; there is no job if there is no such subcommand
abbrev pub IsNamedJob : ℕ → List ℕ → List ℕ → List Row → Job → Type 0
IsNamedJob now seed name rows job = IsFoundJob (subcommand_named name) now seed name rows job

-- the job of the subcommand that the parser found; there is no job if it found no subcommand
abbrev pub IsJob : ℕ → List ℕ → Option (List ℕ × List Row) → Job → Type 0
IsJob now seed None job = ⊥
IsJob now seed (Some used) job = IsNamedJob now seed used.0 used.1 job

-- ---- command lines

-- the kinds of the faults that the parser may report for a command line; a request for help or the
-- version counts as a fault here; the list is empty if the command line has no fault
abbrev pub faults : List (List ℕ) → Kinds
faults arguments = fault_of tool arguments

-- the job of the subcommand in these arguments; the first argument is the program's name, and
-- `random` are random octets for a Nonce
abbrev pub IsJobOf : ℕ → List ℕ → List (List ℕ) → Job → Type 0
IsJobOf now random arguments job =
    IsJob now (seed_of random (drop 1 arguments)) (subcommand_of tool arguments) job

-- the parser's error is a request for the help or for the version
abbrev pub IsText : ErrorKind → Type 0
IsText kind = (kind ≡ DisplayHelp) ⊎ (kind ≡ DisplayVersion)

-- the arguments ask for help or the version, or for the job of their subcommand
abbrev pub Asks : ℕ → List ℕ → List (List ℕ) → Job → Type 0
Asks now random arguments (Help error) =
    IsText (kind_of error) × IsAmong (kind_of error) (faults arguments)
Asks now random arguments job = (faults arguments ≡ []) × IsJobOf now random arguments job

-- `CommandLine`: the parser finds this fault in the arguments, and the fault is not a request for
-- help or the version. `BadValue`: the parser finds no fault, but the arguments spell no job.
abbrev pub IsWrongLine : ℕ → List ℕ → List (List ℕ) → WrongUsage → Type 0
IsWrongLine now random arguments (CommandLine error) =
    IsAmong (kind_of error) (faults arguments) × (IsText (kind_of error) → ⊥)
IsWrongLine now random arguments (BadValue place wanted) =
    (faults arguments ≡ []) × ((job : Job) → IsJobOf now random arguments job → ⊥)

abbrev pub IsRefusedLine : ℕ → List ℕ → List (List ℕ) → ToolFault → Type 0
IsRefusedLine now random arguments (Usage usage) = IsWrongLine now random arguments usage
IsRefusedLine now random arguments Memory = ⊤
IsRefusedLine now random arguments why = ⊥
