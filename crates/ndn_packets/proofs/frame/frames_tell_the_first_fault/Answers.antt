use Rattle.ndn_packets.proofs.FrameFaults.{frame_tells}
use Rattle.ndn_packets.proofs.frame.frames_tell_the_first_fault.Goals as goal

pub returns : goal.returns
returns c = λ text fault fits. frame_tells text fault fits
