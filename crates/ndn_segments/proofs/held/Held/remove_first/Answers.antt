use Rattle.std.proofs.Common.{arith}
use Rattle.ndn_segments.proofs.Places.{shown_drop}
use Rattle.ndn_segments.proofs.held.Held.remove_first.Goals as goal

pub returns : goal.returns
returns c = shown_drop (λ v. v.items) c.self.inside.places.items c.loop.self-inside.places.items c.args.self.now c.loop.counter c.args.count c.self.view_is c.loop.invariant (omega (arith, c.loop.auto.counter-end, c.loop-test.false))
