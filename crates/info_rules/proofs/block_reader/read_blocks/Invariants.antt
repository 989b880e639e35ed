use Rattle.std.proofs.Common.{◌≡◌, length}
use Rattle.info_rules.specs.Found.{shown, joined, each}
use Rattle.info_rules.specs.Keys.{named, block_in}
use Rattle.info_rules.specs.Shown.{keys_of}
use Rattle.info_rules.proofs.block_reader.read_blocks.Given as goal

abbrev pub decreases-loop-key : goal.decreases-loop-key
decreases-loop-key g l = length l.left.entries.now

abbrev pub invariant-loop-key : goal.invariant-loop-key
invariant-loop-key g l =
    joined (shown (λ all. all.items) l.found) (each (block_in g.R.BlockReader.DEPTH (g.R.BlockReader.part_of l.reader)) (named l.word (keys_of l.left)))
    ≡ each (block_in g.R.BlockReader.DEPTH (g.R.BlockReader.part_of l.reader)) (named l.word (keys_of l.keys))
