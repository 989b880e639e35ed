use Rattle.std.proofs.Common.{refl}
use Rattle.std.proofs.lemmas.Bool.{false≢true}
use Rattle.ndn_packets.specs.View.{plain_frame}
use Rattle.certificates.proofs.OneData.{data_begins, data_in-from_frame, no_data-from_fault}
use Rattle.certificates.proofs.data.data_in.Goals as goal

pub returns-then-not-begins_as_data : goal.returns-then-not-begins_as_data
returns-then-not-begins_as_data c = λ packet h. false≢true (c.if-not-begins_as_data.ensures.1 (data_begins c.args.octets.now packet h))

pub returns-in-Err : goal.returns-in-Err
returns-in-Err c = no_data-from_fault c.args.octets.now c.in-Err.field-0 c.in-Err.ensures.only

pub returns-in-Ok : goal.returns-in-Ok
returns-in-Ok c = data_in-from_frame c.args.octets.now (plain_frame c.in-Ok.frame) c.packet_of.result (c.if-not-begins_as_data.ensures.0 refl) c.in-Ok.ensures.found c.in-Ok.ensures.only c.packet_of.ensures
