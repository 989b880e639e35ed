use Rattle.info_rules.proofs.locator.passes_locator.Goals as goal

pub returns-in-Hyper : goal.returns-in-Hyper
returns-in-Hyper c = rw c.in-Hyper.is c.is_hyper_related.ensures
