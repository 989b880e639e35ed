-- The key file of a job, and how often the job sends its Interest again.
use Rattle.std.specs.Prelude.{ℕ, ◌-◌, List, Option, None, Some, string_bytes}
use Rattle.std.specs.Option.{option_map}
use Rattle.ndn_jobs.specs.declared.job.AskJob.{AskJob}
use Rattle.ndn_jobs.specs.declared.job.Job.{Job}
use Rattle.ndn_jobs.specs.declared.job.Job.TheVariants.{Help, Interest, Data, Command, Tag, Show, Explain, Send, Ask, Get, Put, Key}
use Rattle.ndn_jobs.specs.Nonce.{nonce_after}

-- the path of the key file that a job names, or None if the job names no key file
abbrev pub key_file_of : Job → Option (List ℕ)
key_file_of (Help error) = None
key_file_of (Interest job) = option_map string_bytes job.interest.key.keys
key_file_of (Data job) = option_map string_bytes job.key.keys
key_file_of (Command job) = option_map string_bytes job.stamp.key.keys
key_file_of (Tag job) = Some (string_bytes job.keys)
key_file_of (Show octets) = None
key_file_of (Explain job) = option_map string_bytes job.keys
key_file_of (Send job) = None
key_file_of (Ask job) = option_map string_bytes job.keys
key_file_of (Get job) = option_map string_bytes job.keys
key_file_of (Put job) = option_map string_bytes job.key.keys
key_file_of (Key job) = None

-- how often the job sends its Interest again if no answer comes in time
abbrev pub retries_of : Job → ℕ
retries_of (Ask job) = job.retries
retries_of job = 0

abbrev pub asked_again : AskJob → AskJob
asked_again job = record job {
  interest = record job.interest { nonce = nonce_after job.interest.nonce };
  retries = job.retries - 1;
}

-- the job after its Interest got no answer: the Interest has a new Nonce, and is sent again once
-- less; a job of another kind stays as it is
abbrev pub retried : Job → Job
retried (Ask job) = Ask (asked_again job)
retried job = job
