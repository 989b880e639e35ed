-- Which job a subcommand asks for.
use Rattle.std.proofs.Common.{◌≡◌, ℕ, List, Vec, Global, true, false}
use Rattle.clap.specs.Walk.{Row}
use Rattle.ndn_jobs.specs.declared.job.LinkJob.{LinkJob}
use Rattle.ndn_jobs.specs.declared.job.DataJob.{DataJob}
use Rattle.ndn_jobs.specs.declared.job.CommandJob.{CommandJob}
use Rattle.ndn_jobs.specs.declared.job.TagJob.{TagJob}
use Rattle.ndn_jobs.specs.declared.job.ExplainJob.{ExplainJob}
use Rattle.ndn_jobs.specs.declared.job.SendJob.{SendJob}
use Rattle.ndn_jobs.specs.declared.job.AskJob.{AskJob}
use Rattle.ndn_jobs.specs.declared.job.GetJob.{GetJob}
use Rattle.ndn_jobs.specs.declared.job.PutJob.{PutJob}
use Rattle.ndn_jobs.specs.declared.job.KeyJob.{KeyJob}
use Rattle.ndn_jobs.specs.declared.job.Job.{Job}
use Rattle.ndn_jobs.specs.declared.job.Job.TheVariants.{Help, Interest, Data, Command, Tag, Show, Explain, Send, Ask, Get, Put, Key}
use Rattle.ndn_command_line.specs.declared.subcommand.Subcommand.TheVariants as sub
use Rattle.ndn_jobs.specs.Options.{IsLinkJob, IsDataJob, IsCommandJob, IsTagJob, IsShowJob, IsExplainJob, IsSendJob}
use Rattle.ndn_jobs.specs.ShortForm.{IsShortJob}
use Rattle.ndn_jobs.specs.RepositoryForm.{IsRepositoryJob}
use Rattle.ndn_jobs.specs.Ask.{is_list, IsListJob, IsPeekJob}
use Rattle.ndn_jobs.specs.Get.{IsGetJob}
use Rattle.ndn_jobs.specs.Put.{IsPutJob}
use Rattle.ndn_jobs.specs.Key.{IsKeyJob}
use Rattle.ndn_jobs.specs.Command.{IsJobFor, IsListedJob}

module _ (now : ℕ) (seed name : List ℕ) (rows : List Row) where
  pub an_interest : (job : Job) → IsJobFor sub.Interest now seed name rows job → (x : LinkJob) × IsLinkJob rows x
  an_interest (Help error) h = absurd h
  an_interest (Interest job) h = (job, h)
  an_interest (Data job) h = absurd h
  an_interest (Command job) h = absurd h
  an_interest (Tag job) h = absurd h
  an_interest (Show octets) h = absurd h
  an_interest (Explain job) h = absurd h
  an_interest (Send job) h = absurd h
  an_interest (Ask job) h = absurd h
  an_interest (Get job) h = absurd h
  an_interest (Put job) h = absurd h
  an_interest (Key job) h = absurd h

  pub a_data : (job : Job) → IsJobFor sub.Data now seed name rows job → (x : DataJob) × IsDataJob rows x
  a_data (Help error) h = absurd h
  a_data (Interest job) h = absurd h
  a_data (Data job) h = (job, h)
  a_data (Command job) h = absurd h
  a_data (Tag job) h = absurd h
  a_data (Show octets) h = absurd h
  a_data (Explain job) h = absurd h
  a_data (Send job) h = absurd h
  a_data (Ask job) h = absurd h
  a_data (Get job) h = absurd h
  a_data (Put job) h = absurd h
  a_data (Key job) h = absurd h

  pub a_command : (job : Job) → IsJobFor sub.Command now seed name rows job → (x : CommandJob) × IsCommandJob rows x
  a_command (Help error) h = absurd h
  a_command (Interest job) h = absurd h
  a_command (Data job) h = absurd h
  a_command (Command job) h = (job, h)
  a_command (Tag job) h = absurd h
  a_command (Show octets) h = absurd h
  a_command (Explain job) h = absurd h
  a_command (Send job) h = absurd h
  a_command (Ask job) h = absurd h
  a_command (Get job) h = absurd h
  a_command (Put job) h = absurd h
  a_command (Key job) h = absurd h

  pub a_cache : (job : Job) → IsJobFor sub.Cache now seed name rows job → (x : CommandJob) × IsShortJob now seed name rows x
  a_cache (Help error) h = absurd h
  a_cache (Interest job) h = absurd h
  a_cache (Data job) h = absurd h
  a_cache (Command job) h = (job, h)
  a_cache (Tag job) h = absurd h
  a_cache (Show octets) h = absurd h
  a_cache (Explain job) h = absurd h
  a_cache (Send job) h = absurd h
  a_cache (Ask job) h = absurd h
  a_cache (Get job) h = absurd h
  a_cache (Put job) h = absurd h
  a_cache (Key job) h = absurd h

  pub a_repository : (job : Job) → IsJobFor sub.Repository now seed name rows job → (x : CommandJob) × IsRepositoryJob now seed rows x
  a_repository (Help error) h = absurd h
  a_repository (Interest job) h = absurd h
  a_repository (Data job) h = absurd h
  a_repository (Command job) h = (job, h)
  a_repository (Tag job) h = absurd h
  a_repository (Show octets) h = absurd h
  a_repository (Explain job) h = absurd h
  a_repository (Send job) h = absurd h
  a_repository (Ask job) h = absurd h
  a_repository (Get job) h = absurd h
  a_repository (Put job) h = absurd h
  a_repository (Key job) h = absurd h

  pub a_tag : (job : Job) → IsJobFor sub.Tag now seed name rows job → (x : TagJob) × IsTagJob rows x
  a_tag (Help error) h = absurd h
  a_tag (Interest job) h = absurd h
  a_tag (Data job) h = absurd h
  a_tag (Command job) h = absurd h
  a_tag (Tag job) h = (job, h)
  a_tag (Show octets) h = absurd h
  a_tag (Explain job) h = absurd h
  a_tag (Send job) h = absurd h
  a_tag (Ask job) h = absurd h
  a_tag (Get job) h = absurd h
  a_tag (Put job) h = absurd h
  a_tag (Key job) h = absurd h

  pub a_show : (job : Job) → IsJobFor sub.Show now seed name rows job → (x : Vec ℕ Global) × IsShowJob rows x
  a_show (Help error) h = absurd h
  a_show (Interest job) h = absurd h
  a_show (Data job) h = absurd h
  a_show (Command job) h = absurd h
  a_show (Tag job) h = absurd h
  a_show (Show octets) h = (octets, h)
  a_show (Explain job) h = absurd h
  a_show (Send job) h = absurd h
  a_show (Ask job) h = absurd h
  a_show (Get job) h = absurd h
  a_show (Put job) h = absurd h
  a_show (Key job) h = absurd h

  pub an_explanation : (job : Job) → IsJobFor sub.Explain now seed name rows job → (x : ExplainJob) × IsExplainJob rows x
  an_explanation (Help error) h = absurd h
  an_explanation (Interest job) h = absurd h
  an_explanation (Data job) h = absurd h
  an_explanation (Command job) h = absurd h
  an_explanation (Tag job) h = absurd h
  an_explanation (Show octets) h = absurd h
  an_explanation (Explain job) h = (job, h)
  an_explanation (Send job) h = absurd h
  an_explanation (Ask job) h = absurd h
  an_explanation (Get job) h = absurd h
  an_explanation (Put job) h = absurd h
  an_explanation (Key job) h = absurd h

  pub a_send : (job : Job) → IsJobFor sub.Send now seed name rows job → (x : SendJob) × IsSendJob rows x
  a_send (Help error) h = absurd h
  a_send (Interest job) h = absurd h
  a_send (Data job) h = absurd h
  a_send (Command job) h = absurd h
  a_send (Tag job) h = absurd h
  a_send (Show octets) h = absurd h
  a_send (Explain job) h = absurd h
  a_send (Send job) h = (job, h)
  a_send (Ask job) h = absurd h
  a_send (Get job) h = absurd h
  a_send (Put job) h = absurd h
  a_send (Key job) h = absurd h

  pub a_peek : (job : Job) → IsJobFor sub.Peek now seed name rows job → (x : AskJob) × IsPeekJob now seed rows x
  a_peek (Help error) h = absurd h
  a_peek (Interest job) h = absurd h
  a_peek (Data job) h = absurd h
  a_peek (Command job) h = absurd h
  a_peek (Tag job) h = absurd h
  a_peek (Show octets) h = absurd h
  a_peek (Explain job) h = absurd h
  a_peek (Send job) h = absurd h
  a_peek (Ask job) h = (job, h)
  a_peek (Get job) h = absurd h
  a_peek (Put job) h = absurd h
  a_peek (Key job) h = absurd h

  pub a_file : (job : Job) → IsJobFor sub.Get now seed name rows job → (x : GetJob) × IsGetJob now seed rows x
  a_file (Help error) h = absurd h
  a_file (Interest job) h = absurd h
  a_file (Data job) h = absurd h
  a_file (Command job) h = absurd h
  a_file (Tag job) h = absurd h
  a_file (Show octets) h = absurd h
  a_file (Explain job) h = absurd h
  a_file (Send job) h = absurd h
  a_file (Ask job) h = absurd h
  a_file (Get job) h = (job, h)
  a_file (Put job) h = absurd h
  a_file (Key job) h = absurd h

  pub a_stored_file : (job : Job) → IsJobFor sub.Put now seed name rows job → (x : PutJob) × IsPutJob now seed rows x
  a_stored_file (Help error) h = absurd h
  a_stored_file (Interest job) h = absurd h
  a_stored_file (Data job) h = absurd h
  a_stored_file (Command job) h = absurd h
  a_stored_file (Tag job) h = absurd h
  a_stored_file (Show octets) h = absurd h
  a_stored_file (Explain job) h = absurd h
  a_stored_file (Send job) h = absurd h
  a_stored_file (Ask job) h = absurd h
  a_stored_file (Get job) h = absurd h
  a_stored_file (Put job) h = (job, h)
  a_stored_file (Key job) h = absurd h

  pub a_shown_key : (job : Job) → IsJobFor sub.Key now seed name rows job → (x : KeyJob) × IsKeyJob rows x
  a_shown_key (Help error) h = absurd h
  a_shown_key (Interest job) h = absurd h
  a_shown_key (Data job) h = absurd h
  a_shown_key (Command job) h = absurd h
  a_shown_key (Tag job) h = absurd h
  a_shown_key (Show octets) h = absurd h
  a_shown_key (Explain job) h = absurd h
  a_shown_key (Send job) h = absurd h
  a_shown_key (Ask job) h = absurd h
  a_shown_key (Get job) h = absurd h
  a_shown_key (Put job) h = absurd h
  a_shown_key (Key job) h = (job, h)

  -- If the verb is `list`, the job of `route` or `strategy` is a request for a list. If the verb is
  -- not `list`, the job is a command that is given by its short form.

  pub a_list : is_list rows ≡ true → (job : Job) → IsListedJob now seed name rows job → (x : AskJob) × IsListJob now seed name rows x
  a_list said (Help error) h = absurd h
  a_list said (Interest job) h = absurd h
  a_list said (Data job) h = absurd h
  a_list said (Command job) h = let apart = h.0 in absurd cc
  a_list said (Tag job) h = absurd h
  a_list said (Show octets) h = absurd h
  a_list said (Explain job) h = absurd h
  a_list said (Send job) h = absurd h
  a_list said (Ask job) h = (job, h.1)
  a_list said (Get job) h = absurd h
  a_list said (Put job) h = absurd h
  a_list said (Key job) h = absurd h

  pub a_short : is_list rows ≡ false → (job : Job) → IsListedJob now seed name rows job → (x : CommandJob) × IsShortJob now seed name rows x
  a_short other (Help error) h = absurd h
  a_short other (Interest job) h = absurd h
  a_short other (Data job) h = absurd h
  a_short other (Command job) h = (job, h.1)
  a_short other (Tag job) h = absurd h
  a_short other (Show octets) h = absurd h
  a_short other (Explain job) h = absurd h
  a_short other (Send job) h = absurd h
  a_short other (Ask job) h = let apart = h.0 in absurd cc
  a_short other (Get job) h = absurd h
  a_short other (Put job) h = absurd h
  a_short other (Key job) h = absurd h
