use Rattle.std.proofs.Common.{◌∙◌, arith}
use Rattle.ndn_packets.specs.View.{plain_framed}
use Rattle.ndn_packets.proofs.FrameFaults.{framed_fault_from}
use Rattle.ndn_packets.proofs.Packets.{framed_from, framed_again}
use Rattle.ndn_packets.proofs.Carried.{frame_from, token_from, sizes_from}
use Rattle.ndn_packets.proofs.frame.read_lp.Goals as goal

pub returns-clause-found : goal.returns-clause-found
returns-clause-found c = framed_from plain_framed c.args.octets.now c.framed_of.result (λ i. omega (arith, c.type_inv.octets i)) c.framed_of.ensures

pub returns-clause-only : goal.returns-clause-only
returns-clause-only c = λ framed h. c.framed_of.ensures ∙ framed_again c.args.octets.now framed h

pub returns-clause-fault : goal.returns-clause-fault
returns-clause-fault c = framed_fault_from plain_framed c.args.octets.now c.framed_of.result (λ i. omega (arith, c.type_inv.octets i)) c.framed_of.ensures

pub returns-clause-frame : goal.returns-clause-frame
returns-clause-frame c = frame_from c.args.octets.now c.framed_of.result c.framed_of.ensures

pub returns-clause-token : goal.returns-clause-token
returns-clause-token c = token_from c.args.octets.now c.framed_of.result c.framed_of.ensures

pub returns-clause-sizes : goal.returns-clause-sizes
returns-clause-sizes c = sizes_from c.args.octets.now c.framed_of.result c.framed_of.ensures
