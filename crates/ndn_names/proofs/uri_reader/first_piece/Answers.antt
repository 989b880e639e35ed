use Rattle.ndn_names.proofs.Cuts.{pieces_parts, pieces_whole}
use Rattle.ndn_names.proofs.uri_reader.first_piece.Goals as goal

pub returns-in-Some-clause-pieces : goal.returns-in-Some-clause-pieces
returns-in-Some-clause-pieces c = pieces_parts c.args.text.now c.in-Some.parts.0 c.in-Some.parts.1 c.in-Some.ensures.cases

pub returns-in-None-clause-pieces : goal.returns-in-None-clause-pieces
returns-in-None-clause-pieces c = pieces_whole c.args.text.now c.requires c.in-None.ensures.cases
