-- The job of `get`: the file to fetch.
use Rattle.std.specs.Prelude.{◌≡◌, ℕ, List, codes}
use Rattle.clap.specs.Walk.{Row}
use Rattle.ndn_names.specs.ReadsAs.{ReadsAs}
use Rattle.ndn_jobs.specs.declared.job.GetJob.{GetJob}
use Rattle.ndn_jobs.specs.Endpoint.{IsEndpoint}
use Rattle.ndn_jobs.specs.Nonce.{nonce_of}
use Rattle.ndn_jobs.specs.Options.{value_at, Has, MayHave, HasOr, IsPath}
use Rattle.ndn_jobs.specs.Value.{IsNumber, IsPort}

-- the file that the options describe; the first Nonce is computed from the time and the seed
-- (`seed_of`)
pub record IsGetJob (now : ℕ) (seed : List ℕ) (rows : List Row) (job : GetJob) : Type 0 where
  pub name : Has (value_at rows (codes "URI")) ReadsAs job.name
  pub to : Has (value_at rows (codes "to")) IsEndpoint job.to
  pub from : MayHave (value_at rows (codes "from")) IsPort job.from
  pub output : MayHave (value_at rows (codes "output")) IsPath job.output
  pub lifetime : MayHave (value_at rows (codes "lifetime")) IsNumber job.lifetime
  pub retries : HasOr 15 (value_at rows (codes "retries")) IsNumber job.retries
  pub keys : MayHave (value_at rows (codes "keys")) IsPath job.keys
  pub nonce : job.nonce ≡ nonce_of now seed
