use Rattle.ndn_tlv.proofs.Numbers.{Spells-alone}
use Rattle.ndn_tlv.proofs.number.no_spelling_begins_another.Goals as goal

pub returns : goal.returns
returns c = Spells-alone
