use Rattle.std.proofs.Common.{◌≡◌, ◌≤◌, length}
use Rattle.content_store.specs.PlaceBlocks.{flat}
use Rattle.content_store.proofs.places.drop_empty.Given as goal

abbrev pub invariant-loop-index : goal.invariant-loop-index
invariant-loop-index l = record {
  within : l.index ≤ length l.blocks.items;
  same : flat l.blocks.items ≡ flat l.fn.blocks.items;
}

abbrev pub decreases-loop-index : goal.decreases-loop-index
decreases-loop-index l = l.index
