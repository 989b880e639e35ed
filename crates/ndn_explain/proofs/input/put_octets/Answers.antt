use Rattle.std.proofs.Common.{◌∙◌, ◌++◌, List, ℕ, ap, arith, length}
use Rattle.std.proofs.lemmas.List.{append_assoc}
use Rattle.std.proofs.lemmas.Result.{on_ok_weaker}
use Rattle.ndn_explain.specs.Input.{repeated}
use Rattle.ndn_explain.proofs.Inputs.{octets_said}
use Rattle.ndn_explain.proofs.input.put_octets.Goals as goal

pub returns : goal.returns
returns c =
    on_ok_weaker c.put_packet.result
    (λ said. (
      repeated c.args.head.now ++ said.0,
      octets_said _ c.args.line.now c.args.head.now c.args.octets.now said.0 (λ none. let len = ap length none in grind (arith, c.is_empty.ensures, c.if-is_empty.false, len)) said.1,
      said.2 ∙ (ap (λ (t : List ℕ). t ++ said.0) c.in_ok-put_repeated.ensures ∙ append_assoc c.args.text.now.items (repeated c.args.head.now) said.0),
    ))
    c.put_packet.ensures
