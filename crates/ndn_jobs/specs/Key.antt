-- The job of `key show`: the certificate whose key is shown.
use Rattle.std.specs.Prelude.{◌≡◌, List, Bool, true, codes}
use Rattle.clap.specs.Walk.{Row}
use Rattle.ndn_jobs.specs.declared.job.KeyJob.{KeyJob}
use Rattle.ndn_jobs.specs.Ask.{is_word}
use Rattle.ndn_jobs.specs.Options.{value_at, Has, IsPath}

abbrev pub is_show : List Row → Bool
is_show rows = is_word (codes "show") (value_at rows (codes "VERB"))

-- the file that the options give; the verb is `show`
pub record IsKeyJob (rows : List Row) (job : KeyJob) : Type 0 where
  pub verb : is_show rows ≡ true
  pub file : Has (value_at rows (codes "FILE")) IsPath job.file
