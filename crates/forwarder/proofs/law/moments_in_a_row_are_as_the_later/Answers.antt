use Rattle.forwarder.proofs.LaterMoments.{moments_in_a_row}
use Rattle.forwarder.proofs.law.moments_in_a_row_are_as_the_later.Goals as goal

pub returns : goal.returns
returns c = λ p m n. moments_in_a_row p m n
