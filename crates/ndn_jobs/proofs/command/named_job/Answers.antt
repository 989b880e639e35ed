use Rattle.std.proofs.Common.{subst}
use Rattle.std.specs.Prelude.{Option}
use Rattle.ndn_jobs.specs.Command.{IsFoundJob}
use Rattle.ndn_jobs.specs.Options.{rows_in}
use Rattle.ndn_jobs.specs.Value.{IsRefused, ReadsInMemory}
use Rattle.ndn_command_line.specs.declared.subcommand.Subcommand.{Subcommand}
use Rattle.ndn_jobs.proofs.Spelling.{usage_refused}
use Rattle.ndn_jobs.proofs.command.named_job.Goals as goal

pub returns-in-Some : goal.returns-in-Some
returns-in-Some c =
    subst (λ (found : Option Subcommand). ReadsInMemory (IsFoundJob found c.args.now c.args.seed.now c.args.name.now (rows_in c.args.options.now)) c.job_for.result) c.in-Some.ensures c.job_for.ensures

pub returns-in-None : goal.returns-in-None
returns-in-None c =
    subst (λ (found : Option Subcommand). IsRefused (IsFoundJob found c.args.now c.args.seed.now c.args.name.now (rows_in c.args.options.now)) c.no_subcommand.result) c.in-None.ensures
    (usage_refused _ (λ job h. h) c.no_subcommand.result c.no_subcommand.ensures)
