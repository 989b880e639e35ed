-- Reading `trust-anchor` blocks. Of the keys in such a block, only `type` is checked.
use Rattle.std.specs.Prelude.{ℕ, List, None}
use Rattle.info_rules.specs.Blocks.{Anchor}
use Rattle.info_rules.specs.Tree.{Block}
use Rattle.info_rules.specs.Faults.{after}
use Rattle.info_rules.specs.Found.{Found, beside, needed}
use Rattle.info_rules.specs.Keys.{block_in}
use Rattle.info_rules.specs.Values.{anchor_value_in}
use Rattle.info_rules.specs.Walk.{walk_faults}

unfoldable pub anchor_of : ℕ → List Block → Found (Unit {0})
anchor_of line keys =
    beside (after None (walk_faults Anchor keys)) (needed line (anchor_value_in keys))

-- the result of reading a `trust-anchor`, which adds nothing to the rules
unfoldable pub anchor_in : Block → Found (Unit {0})
anchor_in key = block_in 1 anchor_of key
