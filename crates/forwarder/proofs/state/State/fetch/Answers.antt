use Rattle.std.proofs.Common.{false, None, Some, arith}
use Rattle.ndn_packets.specs.declared.interest_writer.InterestWriter.{InterestWriter}
use Rattle.forwarder.proofs.CarriedOut.{written_fits}
use Rattle.forwarder.proofs.state.State.fetch.Goals as goal

pub returns-clause-promised : goal.returns-clause-promised
returns-clause-promised c places space =
    let interest : InterestWriter = record {
      name = c.view-name.result;
      can_be_prefix = c.in-Some.want.can_be_prefix;
      must_be_fresh = false;
      nonce = c.args.nonce;
      lifetime = Some c.in-Some.want.lifetime;
      hop_limit = None;
      parameters = None;
      sign = None;
      time = None;
      seq = None;
    } in
    c.push_fetch.ensures.promised (omega (arith, places, c.push_fetch.ensures.few))
    (λ none. written_fits interest c.args.out.now.space none space)
