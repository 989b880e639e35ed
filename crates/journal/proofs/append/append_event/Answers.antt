use Rattle.std.proofs.Common.{◌≡◌, ◌∙◌, true, inr, sym, rules}
use Rattle.forwarder.specs.Verdict.{verdict_of}
use Rattle.node_core.specs.Script.LineWriter.{event_text}
use Rattle.journal.specs.Appending.{is_journalled_written}
use Rattle.journal.proofs.LineTexts.{one_line}
use Rattle.journal.proofs.append.append_event.Goals as goal

pub returns-clause-failed : goal.returns-clause-failed
returns-clause-failed g c =
    let e = c.args.event.now in
    let chosen : is_journalled_written e (verdict_of c.args.verdict.now) ≡ true = search rules in
    let cut = c.in-Err-append.ensures.cut in
    (chosen, (cut.0, inr (cut.1, (λ event is. one_line event (event_text e) (c.in-Ok.ensures.line event is)), sym c.in-Ok.ensures.text ∙ sym c.as_bytes.ensures.value ∙ cut.2), cut.3))
