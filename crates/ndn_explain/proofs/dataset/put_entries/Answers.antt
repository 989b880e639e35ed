use Rattle.std.proofs.Common.{◌++◌, ℕ, List, sym, ap, ◌∙◌, arith}
use Rattle.std.proofs.lemmas.List.{append-nil}
use Rattle.std.specs.Prelude.{flat_map}
use Rattle.ndn_tlv.proofs.Fields.{elements_of-empty}
use Rattle.ndn_explain.specs.Dataset.{entry_lines}
use Rattle.ndn_explain.proofs.dataset.put_entries.Goals as goal

pub returns : goal.returns
returns c =
    let none = ap (flat_map (entry_lines c.args.layout)) (elements_of-empty c.loop-rest.rest.now (grind (arith, c.loop-rest-test.ensures))) in
    sym (ap (λ (t : List ℕ). c.loop-rest.text.items ++ t) none ∙ append-nil c.loop-rest.text.items) ∙ c.loop-rest.invariant
