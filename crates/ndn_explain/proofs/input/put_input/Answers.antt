use Rattle.std.proofs.Common.{[], ◌++◌, ℕ, List, sym, ap, ◌∙◌, arith, rules}
use Rattle.std.proofs.lemmas.List.{append_assoc, append-nil}
use Rattle.ndn_explain.proofs.Inputs.{said_at_end, line_said}
use Rattle.ndn_explain.proofs.input.put_input.Goals as goal

pub loop-rest-preserved : goal.loop-rest-preserved
loop-rest-preserved c = (
  λ more h.
      let said = c.in_ok-put_line.ensures in
      let whole = c.loop-rest.invariant.0 (said.0 ++ more) (line_said _ _ _ _ said.0 more c.first_line.ensures.lines said.1 h) in
      (whole.0, whole.1, ap (λ (t : List ℕ). t ++ more) said.2 ∙ (append_assoc c.loop-rest.text.items said.0 more ∙ whole.2)),
  search rules,
)

pub returns : goal.returns
returns c =
    let whole = c.loop-rest.invariant.0 [] (said_at_end _ c.loop-rest.rest.now (grind (arith, c.loop-rest-test.ensures))) in
    (whole.0, whole.1, sym (append-nil c.loop-rest.text.items) ∙ whole.2)
