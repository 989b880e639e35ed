use Rattle.std.proofs.Common.{refl, sym, ◌∙◌}
use Rattle.info_rules.specs.Keys.{block_in}
use Rattle.info_rules.specs.Shown.{key_of, keys_of}
use Rattle.info_rules.proofs.Gathering.{loop_start, loop_step, loop_past, loop_done}
use Rattle.info_rules.proofs.block_reader.read_blocks.Goals as goal

pub loop-key-preserved-in_ok-found : goal.loop-key-preserved-in_ok-found
loop-key-preserved-in_ok-found g c =
    loop_step (block_in g.R.BlockReader.DEPTH (g.R.BlockReader.part_of c.args.reader.now)) c.args.word.now (keys_of c.loop-key.left) (keys_of c.in-Some.others) (keys_of c.args.keys) (key_of c.in-Some.key) _ _ c.in_ok-read_block.field-0 c.in-Some.ensures.0
    (sym c.is.ensures ∙ c.if-is.true) c.in_ok-read_block.ensures c.in_ok-found.ensures c.loop-key.invariant

pub returns : goal.returns
returns g c =
    loop_done (block_in g.R.BlockReader.DEPTH (g.R.BlockReader.part_of c.args.reader.now)) c.args.word.now (keys_of c.loop-key.left) (keys_of c.args.keys) _ _ c.in_default.ensures refl c.loop-key.invariant

pub loop-key-init : goal.loop-key-init
loop-key-init g c = loop_start _ _ c.new.ensures.items

pub loop-key-preserved : goal.loop-key-preserved
loop-key-preserved g c =
    loop_past (block_in g.R.BlockReader.DEPTH (g.R.BlockReader.part_of c.args.reader.now)) c.args.word.now (keys_of c.loop-key.left) (keys_of c.in-Some.others) (keys_of c.args.keys) (key_of c.in-Some.key) _ c.in-Some.ensures.0
    (sym c.is.ensures ∙ c.if-is.false) c.loop-key.invariant
