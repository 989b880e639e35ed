use Rattle.ndn_names.proofs.NameReading.{unread, counted, counted_again}
use Rattle.ndn_names.proofs.uri_reader.uri_len.Goals as goal

pub returns-in_err-pieces-clause-only : goal.returns-in_err-pieces-clause-only
returns-in_err-pieces-clause-only c = λ cs reads. absurd (unread c.args.text.now c.in_err-pieces.field-0.0 cs c.in_err-pieces.ensures reads)

pub returns-clause-found : goal.returns-clause-found
returns-clause-found c = counted c.args.text.now c.in_ok-pieces.pieces.now c.count_pieces.result c.in_ok-pieces.ensures c.count_pieces.ensures

pub returns-clause-only : goal.returns-clause-only
returns-clause-only c = counted_again c.args.text.now c.in_ok-pieces.pieces.now c.count_pieces.result c.in_ok-pieces.ensures c.count_pieces.ensures
