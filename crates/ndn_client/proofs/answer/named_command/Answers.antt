use Rattle.std.proofs.Common.{◌++◌, ℕ, List, refl, false, None, Some, Ok, Err, ap, ◌∙◌}
use Rattle.std.proofs.lemmas.Result.{err_from_is_err_and}
use Rattle.ndn_packets.specs.declared.interest_writer.InterestWriter.{InterestWriter}
use Rattle.ndn_packets.specs.Writing.{interest_text, interest_refusal}
use Rattle.ndn_client.specs.Answer.{AsksCommand}
use Rattle.ndn_requests.proofs.Refusals.{answered_error, none_told}
use Rattle.ndn_client.proofs.Refusals.{command_refused}
use Rattle.ndn_client.proofs.answer.named_command.Goals as goal

pub returns-in_err-write : goal.returns-in_err-write
returns-in_err-write c =
    let w : InterestWriter = record { name = c.view.result; can_be_prefix = false; must_be_fresh = false; nonce = c.args.job.now.stamp.nonce; lifetime = None; hop_limit = None; parameters = None; sign = Some c.in_ok-sign.sign; time = Some c.args.job.now.stamp.time; seq = c.args.job.now.stamp.seq } in
    let asks : AsksCommand c.args.job.now c.args.book.now w = record { name = c.view.ensures ∙ c.requires; can_be_prefix = refl; must_be_fresh = refl; nonce = refl; lifetime = refl; hop_limit = refl; parameters = refl; sign = c.in_ok-sign.ensures; time = refl; seq = refl } in
    let why = c.in_err-write.field-0.0 in
    let p = err_from_is_err_and c.from_residual-in_err-write.result c.from_residual-in_err-write.ensures.1 in
    rw (p.1, p.2) (command_refused c.args.job.now c.args.book.now w why asks (answered_error (interest_refusal w) why (Err why) refl c.in_err-write.ensures.fault))

pub returns : goal.returns
returns c =
    let w : InterestWriter = record { name = c.view.result; can_be_prefix = false; must_be_fresh = false; nonce = c.args.job.now.stamp.nonce; lifetime = None; hop_limit = None; parameters = None; sign = Some c.in_ok-sign.sign; time = Some c.args.job.now.stamp.time; seq = c.args.job.now.stamp.seq } in
    let asks : AsksCommand c.args.job.now c.args.book.now w = record { name = c.view.ensures ∙ c.requires; can_be_prefix = refl; must_be_fresh = refl; nonce = refl; lifetime = refl; hop_limit = refl; parameters = refl; sign = c.in_ok-sign.ensures; time = refl; seq = refl } in (
      w,
      asks,
      none_told (interest_refusal w) (Ok tt) refl c.in_ok-write.ensures.fault,
      c.in_ok-write.ensures.ok ∙ ap (λ (t : List ℕ). t ++ interest_text w) c.new-packet.ensures.items,
    )
