use Rattle.std.proofs.Common.{◌∙◌, arith}
use Rattle.ndn_packets.specs.View.{plain_frame}
use Rattle.ndn_packets.proofs.FrameFaults.{fault_from}
use Rattle.ndn_packets.proofs.Packets.{found_from, frame_again}
use Rattle.ndn_packets.proofs.frame.read_frame.Goals as goal

pub returns-clause-found : goal.returns-clause-found
returns-clause-found c = found_from plain_frame c.args.octets.now c.frame_of.result (λ i. omega (arith, c.type_inv.octets i)) c.frame_of.ensures

pub returns-clause-only : goal.returns-clause-only
returns-clause-only c = λ frame h. c.frame_of.ensures ∙ frame_again c.args.octets.now frame h

pub returns-clause-fault : goal.returns-clause-fault
returns-clause-fault c = fault_from plain_frame c.args.octets.now c.frame_of.result (λ i. omega (arith, c.type_inv.octets i)) c.frame_of.ensures
