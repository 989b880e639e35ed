use Rattle.std.proofs.Common.{sym, ◌∙◌}
use Rattle.ndn_packets.proofs.Steps.{ok_is}
use Rattle.ndn_packets.proofs.Packets.{framed_found, framed_again, frame_found, frame_again}
use Rattle.ndn_packets.proofs.frame.frames_have_one_reading.Goals as goal

pub returns-clause-one : goal.returns-clause-one
returns-clause-one c = λ text a b f g. ok_is a b (sym (frame_again text a f) ∙ frame_again text b g)

pub returns-clause-exact : goal.returns-clause-exact
returns-clause-exact c = λ text frame fits. (frame_found text frame fits, frame_again text frame)

pub returns-clause-one_framed : goal.returns-clause-one_framed
returns-clause-one_framed c = λ text a b f g. ok_is a b (sym (framed_again text a f) ∙ framed_again text b g)

pub returns-clause-exact_framed : goal.returns-clause-exact_framed
returns-clause-exact_framed c = λ text framed fits. (framed_found text framed fits, framed_again text framed)
