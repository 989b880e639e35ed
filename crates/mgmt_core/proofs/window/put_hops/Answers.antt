use Rattle.std.proofs.Common.{List, ℕ, ◌++◌, sym, ap, ◌∙◌, append_assoc, take, arith}
use Rattle.std.specs.Prelude.{flat_map}
use Rattle.mgmt_core.specs.Writing.{hop_text}
use Rattle.mgmt_core.proofs.Texts.{texts_and_one, never_absent}
use Rattle.mgmt_core.proofs.window.put_hops.Goals as goal
use Rattle.mgmt_core.proofs.window.put_hops.Goals.{in-Some+in_ok-put_hop, in_default}

pub loop-at-preserved : goal.loop-at-preserved
loop-at-preserved c =
    let old = c.args.text.now.items in
    let hops = c.args.hops.now in
    elim c.match-get.branch [
      | in-Some+in_ok-put_hop w ↦
          rw w.text-is (w.in_ok-put_hop.ensures
          ∙ ap (λ (t : List ℕ). t ++ hop_text w.in-Some.hop) c.loop-at.invariant
          ∙ append_assoc old (flat_map hop_text (take c.loop-at.at hops)) (hop_text w.in-Some.hop)
          ∙ ap (λ (t : List ℕ). old ++ t) (texts_and_one hop_text hops c.loop-at.at w.in-Some.hop (sym c.get.ensures ∙ w.in-Some.is)))
      | in_default w ↦
          let no = never_absent hops c.loop-at.at (omega (arith, c.loop-at-test.true, c.len-at-end.ensures.exact)) (sym c.get.ensures ∙ w.in_default.is) tt in
          absurd (omega (arith, no))
    ]
