use Rattle.clap.specs.Words.{found_of}
use Rattle.clap.proofs.WalkLemmas.{one_text-rows}
use Rattle.ndn_jobs.proofs.options.flag.Goals as goal

pub returns : goal.returns
returns c = rw (← one_text-rows (found_of c.args.options.now) c.args.id.now) (c.get_flag.ensures.value, c.get_flag.ensures.other, c.get_flag.ensures.none)
