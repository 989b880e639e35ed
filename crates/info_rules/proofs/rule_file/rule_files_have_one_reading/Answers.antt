use Rattle.info_rules.proofs.FileMeanings.{file_means, file_meant, one_meaning}
use Rattle.info_rules.proofs.rule_file.rule_files_have_one_reading.Goals as goal

pub returns : goal.returns
returns c = record { exact = λ entries rules. (file_means entries rules, file_meant entries rules); one = one_meaning }
