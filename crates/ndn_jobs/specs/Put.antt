-- The job of `put`: the file to store.
use Rattle.std.specs.Prelude.{◌≡◌, ℕ, List, codes}
use Rattle.clap.specs.Walk.{Row}
use Rattle.ndn_names.specs.ReadsAs.{ReadsAs}
use Rattle.ndn_jobs.specs.declared.job.PutJob.{PutJob}
use Rattle.ndn_jobs.specs.Endpoint.{IsEndpoint}
use Rattle.ndn_jobs.specs.Nonce.{nonce_of}
use Rattle.ndn_jobs.specs.Options.{value_at, Has, MayHave, HasOr, IsPath, IsKeyChoice}
use Rattle.ndn_jobs.specs.Value.{IsNumber, IsPort}

-- the file that the options describe; the first Nonce is computed from the time and the seed
-- (`seed_of`)
pub record IsPutJob (now : ℕ) (seed : List ℕ) (rows : List Row) (job : PutJob) : Type 0 where
  pub file : Has (value_at rows (codes "FILE")) IsPath job.file
  pub name : Has (value_at rows (codes "URI")) ReadsAs job.name
  pub repository : Has (value_at rows (codes "repo")) ReadsAs job.repository
  pub to : Has (value_at rows (codes "to")) IsEndpoint job.to
  pub from : MayHave (value_at rows (codes "from")) IsPort job.from
  pub freshness : MayHave (value_at rows (codes "freshness")) IsNumber job.freshness
  pub retries : HasOr 15 (value_at rows (codes "retries")) IsNumber job.retries
  pub key : IsKeyChoice rows job.key
  pub time : job.time ≡ now
  pub nonce : job.nonce ≡ nonce_of now seed
