use Rattle.std.proofs.Common.{◌++◌, ℕ, List, refl, false, None, Ok, Err, ap, ◌∙◌}
use Rattle.std.proofs.lemmas.Result.{err_from_is_err_and}
use Rattle.ndn_names.specs.View.{components}
use Rattle.ndn_packets.specs.declared.interest_writer.InterestWriter.{InterestWriter}
use Rattle.ndn_packets.specs.Writing.{interest_text, interest_refusal}
use Rattle.ndn_requests.specs.Exchange.{AsksPlainly}
use Rattle.ndn_requests.proofs.Refusals.{answered_error, none_told, request_refused}
use Rattle.ndn_requests.proofs.exchange.request_for.Goals as goal

pub returns-in_err-write : goal.returns-in_err-write
returns-in_err-write c =
    let w : InterestWriter = record { name = c.args.name; can_be_prefix = false; must_be_fresh = false; nonce = c.args.nonce; lifetime = None; hop_limit = None; parameters = None; sign = None; time = None; seq = None } in
    let asks : AsksPlainly (components c.args.name) c.args.nonce w = record { name = refl; can_be_prefix = refl; must_be_fresh = refl; nonce = refl; lifetime = refl; hop_limit = refl; parameters = refl; sign = refl } in
    let why = c.in_err-write.field-0.0 in
    let p = err_from_is_err_and c.from_residual.result c.from_residual.ensures.1 in
    rw (p.1, p.2) (request_refused (components c.args.name) c.args.nonce w why asks (answered_error (interest_refusal w) why (Err why) refl c.in_err-write.ensures.fault))

pub returns : goal.returns
returns c =
    let w : InterestWriter = record { name = c.args.name; can_be_prefix = false; must_be_fresh = false; nonce = c.args.nonce; lifetime = None; hop_limit = None; parameters = None; sign = None; time = None; seq = None } in
    let asks : AsksPlainly (components c.args.name) c.args.nonce w = record { name = refl; can_be_prefix = refl; must_be_fresh = refl; nonce = refl; lifetime = refl; hop_limit = refl; parameters = refl; sign = refl } in (
      w,
      asks,
      none_told (interest_refusal w) (Ok tt) refl c.in_ok-write.ensures.fault,
      c.in_ok-write.ensures.ok ∙ ap (λ (t : List ℕ). t ++ interest_text w) c.new-packet.ensures.items,
    )
