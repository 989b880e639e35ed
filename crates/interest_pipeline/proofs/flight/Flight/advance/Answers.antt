use Rattle.std.proofs.Common.{◌<◌, length, refl, arith, sym, ◌∙◌}
use Rattle.interest_pipeline.proofs.Advancing.{shorter}
use Rattle.interest_pipeline.proofs.flight.Flight.advance.Goals as goal

pub loop-self-preserved : goal.loop-self-preserved
loop-self-preserved c =
    let i = c.loop-self.invariant in
    let some : 0 < length c.loop-self.self-inside.places.items = omega (arith, c.in-Some-Answered.ensures.variant.0 refl, c.loop-self.self-inside.places.ok.0) in
    let s = shorter c.loop-self.self-inside.places.items c.pop_front.new.self.items c.in-Some-Answered.field-0.now some c.in-Some-Answered.ensures.lookup c.in-Some-Answered.field-0-is c.pop_front.ensures.rest in
    record {
      limit = i.limit;
      last = i.last;
      capacity = c.pop_front.ensures.capacity ∙ i.capacity;
      shorter = omega (arith, s.length);
      end = omega (arith, s.length);
      in_flight = i.in_flight;
      counted = sym s.in_flight ∙ i.counted;
      lost = i.lost;
      counted_lost = sym s.lost ∙ i.counted_lost;
      base = omega (arith, s.front);
      places = sym s.kept ∙ i.places;
    }
