use Rattle.journal.proofs.Texts.{cut_script, cut_text_once}
use Rattle.journal.proofs.law.journal_texts_have_one_reading.Goals as goal

pub returns-clause-script : goal.returns-clause-script
returns-clause-script c = cut_script

pub returns-clause-one : goal.returns-clause-one
returns-clause-one c = cut_text_once
