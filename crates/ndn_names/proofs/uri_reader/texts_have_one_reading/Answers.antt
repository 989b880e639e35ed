use Rattle.std.proofs.Common.{◌∙◌, sym}
use Rattle.ndn_names.proofs.Names.{done_is}
use Rattle.ndn_names.proofs.PieceReading.{alone_found, alone_again}
use Rattle.ndn_names.proofs.PathReading.{text_found, text_again}
use Rattle.ndn_names.proofs.uri_reader.texts_have_one_reading.Goals as goal

pub returns : goal.returns
returns c = record {
  component = λ text c. (alone_found text c, λ h. alone_again text c h.0 h.1);
  exact = λ text cs. (text_found text cs, text_again text cs);
  one = λ text a b p q. done_is a b (sym (text_again text a p) ∙ text_again text b q);
}
