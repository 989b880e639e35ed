use Rattle.std.proofs.Common.{refl, inl, inr, codes}
use Rattle.std.proofs.lemmas.Result.{on_ok_weaker}
use Rattle.ndn_packets.specs.FaultName.{packet_name}
use Rattle.ndn_packets.specs.View.{plain_framed}
use Rattle.ndn_explain.specs.Show.{named_line}
use Rattle.ndn_explain.specs.Explain.{framed_explanation}
use Rattle.ndn_explain.proofs.input.put_packet.Goals as goal

pub returns-in-Err : goal.returns-in-Err
returns-in-Err c =
    on_ok_weaker c.put_malformed.result
    (λ e. (named_line (codes "malformed") (packet_name c.in-Err.fault), inr (c.in-Err.fault, c.in-Err.ensures.fault, refl), e))
    c.put_malformed.ensures

pub returns-in-Ok : goal.returns-in-Ok
returns-in-Ok c =
    let framed = plain_framed c.in-Ok.framed in
    on_ok_weaker c.put_framed_explanation.result
    (λ e. (framed_explanation framed c.check_of.result, inl (framed, c.check_of.result, c.in-Ok.ensures.found, c.check_of.ensures, refl), e))
    c.put_framed_explanation.ensures
