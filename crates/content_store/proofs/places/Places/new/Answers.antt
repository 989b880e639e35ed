use Rattle.content_store.proofs.Flat.{nothing_laid}
use Rattle.content_store.proofs.places.Places.new.Goals as goal

pub invariant_of-result : goal.invariant_of-result
invariant_of-result c = (nothing_laid c.new.result.items c.new.ensures.items).0

pub returns : goal.returns
returns c = (nothing_laid c.new.result.items c.new.ensures.items).1
