use Rattle.face_table.proofs.Silent.{AreHeardUntil-remove}
use Rattle.face_table.proofs.clients.Clients.remove.Goals as goal

pub invariant_of-self : goal.invariant_of-self
invariant_of-self c = rw c.remove-client.ensures.items (AreHeardUntil-remove c.self.inside.heard_until c.self.inside.idle c.self.inside.rows.items c.args.place c.self.invariant)
