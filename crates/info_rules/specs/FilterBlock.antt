-- Reading `filter` blocks.
use Rattle.std.specs.Prelude.{ℕ, List, None}
use Rattle.info_rules.specs.declared.rule.NameTest.{NameTest}
use Rattle.info_rules.specs.Forms.{PacketName}
use Rattle.info_rules.specs.Blocks.{Filter}
use Rattle.info_rules.specs.Tree.{Block}
use Rattle.info_rules.specs.Faults.{after}
use Rattle.info_rules.specs.Found.{Found, beside, needed}
use Rattle.info_rules.specs.Keys.{block_in}
use Rattle.info_rules.specs.Walk.{walk_faults}
use Rattle.info_rules.specs.NameTest.{asked_in}

unfoldable pub filter_of : ℕ → List Block → Found NameTest
filter_of line keys = beside (after None (walk_faults Filter keys))
    (needed line (asked_in PacketName line keys))

-- the requirement that a `filter` states on a packet's name, or the fault that is reported
unfoldable pub filter_in : Block → Found NameTest
filter_in key = block_in 2 filter_of key
