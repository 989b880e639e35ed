use Rattle.content_store.proofs.Flat.{nothing_laid}
use Rattle.content_store.proofs.places.Places.clear.Goals as goal

pub invariant_of-self : goal.invariant_of-self
invariant_of-self c = (nothing_laid c.clear.new.self.items c.clear.ensures.items).0

pub returns : goal.returns
returns c = (nothing_laid c.clear.new.self.items c.clear.ensures.items).1
