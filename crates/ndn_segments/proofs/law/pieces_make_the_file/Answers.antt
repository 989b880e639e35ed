use Rattle.ndn_segments.proofs.Pieces.{joined, get-pieces, length-pieces, full_piece, last_len}
use Rattle.ndn_segments.proofs.law.pieces_make_the_file.Goals as goal

pub returns-clause-joined : goal.returns-clause-joined
returns-clause-joined c = joined

pub returns-clause-each : goal.returns-clause-each
returns-clause-each c = get-pieces

pub returns-clause-count : goal.returns-clause-count
returns-clause-count c = length-pieces

pub returns-clause-full : goal.returns-clause-full
returns-clause-full c = full_piece

pub returns-clause-rest : goal.returns-clause-rest
returns-clause-rest c = last_len
