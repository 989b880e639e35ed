use Rattle.content_store.proofs.blocks.add_row.Goals as goal

pub returns : goal.returns
returns c = λ rows follows all. c.halve.ensures (c.begin.ensures (c.follow.ensures _ rows follows all))
