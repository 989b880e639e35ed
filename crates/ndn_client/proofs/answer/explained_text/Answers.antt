use Rattle.std.proofs.Common.{ℕ, List, ◌++◌, ap, ◌∙◌}
use Rattle.ndn_packets.specs.View.{plain_framed}
use Rattle.ndn_explain.specs.Explain.{framed_explanation}
use Rattle.ndn_client.proofs.answer.explained_text.Goals as goal

pub returns : goal.returns
returns c =
    let framed = plain_framed c.in_ok-framed.framed in
    let said = framed_explanation framed c.check_of-check.result in (
      framed,
      c.check_of-check.result,
      c.in_ok-framed.ensures,
      c.check_of-check.ensures,
      c.in_ok-put_framed_explanation.ensures ∙ ap (λ (t : List ℕ). t ++ said) c.new-text.ensures.items,
    )
