use Rattle.ndn_tlv.proofs.Numbers.{Spells-is, Spells-from}
use Rattle.ndn_tlv.proofs.number.each_number_has_one_spelling.Goals as goal

pub returns : goal.returns
returns c = λ text n. (Spells-is text n, Spells-from text n)
