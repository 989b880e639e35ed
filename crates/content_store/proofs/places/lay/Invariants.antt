use Rattle.std.proofs.Common.{◌≡◌, length, take}
use Rattle.content_store.specs.PlaceBlocks.{AreLaid, flat}
use Rattle.content_store.proofs.places.lay.Given as goal

abbrev pub invariant-loop-index : goal.invariant-loop-index
invariant-loop-index l = record {
  len : length l.blocks.items ≡ length l.fn.blocks.items;
  same : flat l.blocks.items ≡ flat l.fn.blocks.items;
  laid : AreLaid 0 (take l.index l.blocks.items);
  start : l.start ≡ length (flat (take l.index l.blocks.items));
}
