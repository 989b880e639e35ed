use Rattle.std.proofs.Common.{sym}
use Rattle.ndn_jobs.proofs.ShortForms.{no_verb}
use Rattle.ndn_jobs.proofs.short_form.action_in.Goals as goal

pub returns-in-None : goal.returns-in-None
returns-in-None c = rw c.refusal.ensures (no_verb c.args.subcommand.now _ _ c.in_ok-verb.ensures (sym c.in-None.ensures))
