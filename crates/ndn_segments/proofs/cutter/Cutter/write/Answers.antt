use Rattle.std.proofs.Common.{◌∙◌, arith}
use Rattle.ndn_segments.specs.Cut.{plan_of}
use Rattle.ndn_segments.proofs.Cutting.{not_put}
use Rattle.ndn_segments.proofs.cutter.Cutter.write.Goals as goal

pub returns-clause-fault : goal.returns-clause-fault
returns-clause-fault c = not_put (plan_of c.args.self.now) c.args.number c.args.piece.now c.put.result (omega (arith, c.if-last-number.false, c.last.ensures.exact)) (c.if-piece-piece_len.false ∙ c.piece_len.ensures) c.put.ensures.fault
