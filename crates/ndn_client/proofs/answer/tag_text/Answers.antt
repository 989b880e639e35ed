use Rattle.ndn_client.proofs.answer.tag_text.Goals as goal

pub returns-in-None : goal.returns-in-None
returns-in-None c = rw c.view.ensures at c.in-None.ensures
