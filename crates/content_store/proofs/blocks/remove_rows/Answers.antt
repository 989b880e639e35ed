use Rattle.content_store.proofs.blocks.remove_rows.Goals as goal

pub returns : goal.returns
returns c = λ rows follows all. c.look_again-2.ensures (c.look_again.ensures (c.drop_empty.ensures _ (c.follow.ensures _ rows follows all)))
