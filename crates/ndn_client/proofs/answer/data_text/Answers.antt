use Rattle.std.proofs.Common.{◌++◌, ℕ, List, refl, None, Ok, Err, ap, ◌∙◌}
use Rattle.std.proofs.lemmas.Result.{err_from_is_err_and}
use Rattle.ndn_packets.specs.declared.data_writer.DataWriter.{DataWriter}
use Rattle.ndn_packets.specs.Writing.{data_text, data_refusal}
use Rattle.ndn_client.specs.Answer.{AsksData}
use Rattle.ndn_explain.specs.Show.{hex_line}
use Rattle.ndn_requests.proofs.Refusals.{answered_error, none_told}
use Rattle.ndn_client.proofs.Refusals.{data_refused}
use Rattle.ndn_client.proofs.answer.data_text.Goals as goal
use Rattle.ndn_client.proofs.answer.data_text.Goals.{After-octets_in}

-- the packet that the job asks for
abbrev asked : After-octets_in → DataWriter
asked c = record { name = c.view.result; freshness = c.args.job.now.freshness; last = None; content = c.octets_in.result; sign = c.in_ok-sign.sign }

is_asked : (c : After-octets_in) → AsksData c.args.job.now c.args.book.now (asked c)
is_asked c = record { name = c.view.ensures; freshness = refl; last = refl; content = c.octets_in.ensures; sign = c.in_ok-sign.ensures }

pub returns-in_err-write : goal.returns-in_err-write
returns-in_err-write c =
    let w = asked (goal.at.returns-in_err-write c).After-octets_in in
    let asks = is_asked (goal.at.returns-in_err-write c).After-octets_in in
    let why = c.in_err-write.field-0.0 in
    let p = err_from_is_err_and c.from_residual-in_err-write.result c.from_residual-in_err-write.ensures.1 in
    rw (p.1, p.2) (data_refused c.args.job.now c.args.book.now w why asks (answered_error (data_refusal w) why (Err why) refl c.in_err-write.ensures.fault))

pub returns : goal.returns
returns c =
    let w = asked (goal.at.returns c).After-octets_in in
    let asks = is_asked (goal.at.returns c).After-octets_in in (
      w,
      asks,
      none_told (data_refusal w) (Ok tt) refl c.in_ok-write.ensures.fault,
      c.in_ok-hex_line.ensures ∙ ap hex_line (c.deref.ensures.value ∙ (c.in_ok-write.ensures.ok ∙ ap (λ (t : List ℕ). t ++ data_text w) c.new-packet.ensures.items)),
    )
