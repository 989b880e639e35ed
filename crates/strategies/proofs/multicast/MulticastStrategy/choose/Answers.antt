use Rattle.std.proofs.Common.{◌≡◌, ℕ, ◌-◌, ◌∷◌, drop, false, ap, ◌∙◌, rules}
use Rattle.std.specs.FinMap as map
use Rattle.strategies.specs.Eligible.{eligible}
use Rattle.strategies.specs.Selection.{was_recent}
use Rattle.strategies.proofs.Places.{back}
use Rattle.strategies.proofs.FaceSets.{taken_more}
use Rattle.strategies.proofs.multicast.MulticastStrategy.choose.Goals as goal

pub loop-i-preserved-in-loop-i : goal.loop-i-preserved-in-loop-i
loop-i-preserved-in-loop-i c =
    let hops = c.args.hops.now in
    let ask = c.args.ask in
    let i = c.loop-i.i in
    let old : was_recent ask.now (map.get c.args.used.now c.in-Some.hop.face) ≡ false = search rules in
    taken_more c.args.used.now ask.now c.in-Some.hop (eligible ask (drop i hops)) (eligible ask (drop (i - 1) hops)) c.loop-i.faces c.insert.new.self i c.loop-i-test.true c.loop-i.invariant
    (c.in-Some.ensures ∙ ap (λ (m : ℕ). c.in-Some.hop ∷ eligible ask (drop m hops)) (back i c.loop-i-test.true)) old (ap (λ p. p.1) c.insert.ensures)
