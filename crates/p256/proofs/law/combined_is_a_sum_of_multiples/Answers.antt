use Rattle.p256.proofs.Multiples.{walk}
use Rattle.p256.proofs.law.combined_is_a_sum_of_multiples.Goals as goal

pub returns : goal.returns
returns c = λ is_point are_same q u v g iq hu hv. walk is_point are_same g 256 u v q iq hu hv
