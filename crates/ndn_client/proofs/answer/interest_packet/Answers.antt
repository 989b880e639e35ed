use Rattle.std.proofs.Common.{◌++◌, ℕ, List, refl, Ok, Err, ap, ◌∙◌}
use Rattle.std.proofs.lemmas.Result.{err_from_is_err_and}
use Rattle.ndn_packets.specs.declared.interest_writer.InterestWriter.{InterestWriter}
use Rattle.ndn_packets.specs.Writing.{interest_text, interest_refusal}
use Rattle.ndn_client.specs.Answer.{AsksInterest}
use Rattle.ndn_requests.proofs.Refusals.{answered_error, none_told}
use Rattle.ndn_client.proofs.Refusals.{interest_refused}
use Rattle.ndn_client.proofs.answer.interest_packet.Goals as goal
use Rattle.ndn_client.proofs.answer.interest_packet.Goals.{After-octets_in}

-- the packet that the job asks for
abbrev asked : After-octets_in → InterestWriter
asked c = record { name = c.view.result; can_be_prefix = c.args.job.now.can_be_prefix; must_be_fresh = c.args.job.now.must_be_fresh; nonce = c.args.job.now.nonce; lifetime = c.args.job.now.lifetime; hop_limit = c.args.job.now.hop_limit; parameters = c.octets_in.result; sign = c.in_ok-sign.sign; time = c.args.job.now.time; seq = c.args.job.now.seq }

is_asked : (c : After-octets_in) → AsksInterest c.args.job.now c.args.book.now (asked c)
is_asked c = record { name = c.view.ensures; can_be_prefix = refl; must_be_fresh = refl; nonce = refl; lifetime = refl; hop_limit = refl; parameters = c.octets_in.ensures; sign = c.in_ok-sign.ensures; time = refl; seq = refl }

pub returns-in_err-write : goal.returns-in_err-write
returns-in_err-write c =
    let w = asked (goal.at.returns-in_err-write c).After-octets_in in
    let asks = is_asked (goal.at.returns-in_err-write c).After-octets_in in
    let why = c.in_err-write.field-0.0 in
    let p = err_from_is_err_and c.from_residual-in_err-write.result c.from_residual-in_err-write.ensures.1 in
    rw (p.1, p.2) (interest_refused c.args.job.now c.args.book.now w why asks (answered_error (interest_refusal w) why (Err why) refl c.in_err-write.ensures.fault))

pub returns : goal.returns
returns c =
    let w = asked (goal.at.returns c).After-octets_in in
    let asks = is_asked (goal.at.returns c).After-octets_in in (
      w,
      asks,
      none_told (interest_refusal w) (Ok tt) refl c.in_ok-write.ensures.fault,
      c.in_ok-write.ensures.ok ∙ ap (λ (t : List ℕ). t ++ interest_text w) c.new-packet.ensures.items,
    )
