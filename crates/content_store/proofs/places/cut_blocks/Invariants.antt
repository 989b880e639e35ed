use Rattle.std.proofs.Common.{◌≡◌, ◌-◌, ◌<◌, ◌≤◌, ℕ, get_or, length}
use Rattle.content_store.specs.declared.places.Block.{Block}
use Rattle.content_store.specs.Uses.{without_range}
use Rattle.content_store.proofs.places.cut_blocks.Given as goal

abbrev pub invariant-loop-index : goal.invariant-loop-index
invariant-loop-index l = record {
  len : length l.blocks.items ≡ length l.fn.blocks.items;
  cut : (j : ℕ) (d : Block) → j < l.index → j < length l.fn.blocks.items → (get_or l.blocks.items j d).items.items
      ≡ without_range (l.start - (get_or l.fn.blocks.items j d).start) (l.end - (get_or l.fn.blocks.items j d).start) (get_or l.fn.blocks.items j d).items.items;
  same : (j : ℕ) (d : Block) → l.index ≤ j → get_or l.blocks.items j d ≡ get_or l.fn.blocks.items j d;
}
