use Rattle.std.proofs.Common.{◌≡◌, ◌+◌, ap, subst, sym, ◌∙◌, arith}
use Rattle.std.specs.Prelude.{unwrap_or}
use Rattle.std.specs.FinMap.{insert}
use Rattle.pit_fib.specs.RecordTally.{ArePositive, number}
use Rattle.pit_fib.specs.Tables.{ByFace}
use Rattle.pit_fib.proofs.RecordTallies.{has_room, positive-insert, raised}
use Rattle.pit_fib.proofs.record_tally.raise_face.Goals as goal
use Rattle.pit_fib.proofs.record_tally.raise_face.Goals.{After-insert}

new : (c : After-insert) → c.insert.new.self ≡ insert c.args.faces.now c.args.face (c.unwrap_or-number.result + 1)
new c = c.insert.ensures.ok (c.insert.ensures.taken ∙ has_room c.args.faces.now c.args.face c.requires.positive c.requires.room)

pub returns-clause-positive : goal.returns-clause-positive
returns-clause-positive c = subst ArePositive (sym (new c)) (positive-insert c.args.faces.now c.args.face (c.unwrap_or-number.result + 1) (omega arith) c.requires.positive)

pub returns-clause-raised : goal.returns-clause-raised
returns-clause-raised c = λ f.
    ap (λ (m : ByFace). number m f) (new c)
    ∙ raised c.args.faces.now c.args.face c.unwrap_or-number.result (c.unwrap_or-number.ensures ∙ ap (λ o. unwrap_or o 0) c.get.ensures) f
