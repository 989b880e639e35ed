use Rattle.std.proofs.Common.{◌-◌, ◌<◌, ◌≤◌, get_or, length}
use Rattle.content_store.specs.declared.places.Block.{Block}
use Rattle.content_store.proofs.places.block_at.Given as goal

abbrev pub invariant-loop-high : goal.invariant-loop-high
invariant-loop-high l = record {
  ordered : l.low < l.high;
  within : l.high ≤ length l.blocks;
  begins : (d : Block) → (get_or l.blocks l.low d).start ≤ l.at;
  before : (d : Block) → l.high < length l.blocks → l.at < (get_or l.blocks l.high d).start;
}

abbrev pub decreases-loop-high : goal.decreases-loop-high
decreases-loop-high l = l.high - l.low
