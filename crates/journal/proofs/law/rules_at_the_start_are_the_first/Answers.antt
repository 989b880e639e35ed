use Rattle.journal.proofs.FirstRules.{first_rules}
use Rattle.journal.proofs.law.rules_at_the_start_are_the_first.Goals as goal

pub returns : goal.returns
returns c = λ first q r rules k keys now again rest e h. first_rules first r rules k keys now q again rest e h
