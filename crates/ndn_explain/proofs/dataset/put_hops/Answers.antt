use Rattle.std.proofs.Common.{◌++◌, ℕ, List, sym, ap, ◌∙◌, arith}
use Rattle.std.proofs.lemmas.List.{append-nil}
use Rattle.std.specs.Prelude.{flat_map}
use Rattle.ndn_tlv.proofs.Fields.{elements_of-empty}
use Rattle.ndn_explain.specs.Dataset.{hop_line}
use Rattle.ndn_explain.proofs.dataset.put_hops.Goals as goal

pub returns : goal.returns
returns c =
    let none = ap (flat_map (hop_line c.args.layout c.args.name.now)) (elements_of-empty c.loop-rest.rest.now (grind (arith, c.loop-rest-test.ensures))) in
    sym (ap (λ (t : List ℕ). c.loop-rest.text.items ++ t) none ∙ append-nil c.loop-rest.text.items) ∙ c.loop-rest.invariant
