use Rattle.std.proofs.Common.{Ok, ◌≡◌, sym, ◌∙◌}
use Rattle.key_files.proofs.Files.{found, again}
use Rattle.key_files.proofs.FaultyLines.{first_fault, again_fault}
use Rattle.key_files.proofs.key_book.key_files_have_one_reading.Goals as goal

pub returns : goal.returns
returns c = record {
  exact = λ text keys. (found text keys, again text keys);
  one = λ text a b p q. (let both : Ok a ≡ Ok b = sym (again text a p) ∙ again text b q in cc);
  fault = λ text fault. (first_fault text fault, again_fault text fault);
}
