use Rattle.std.proofs.Common.{◌≡◌, ◌-◌, ap, subst, sym, ◌∙◌, arith}
use Rattle.std.specs.Prelude.{unwrap_or}
use Rattle.std.specs.FinMap.{insert}
use Rattle.pit_fib.specs.RecordTally.{ArePositive, number}
use Rattle.pit_fib.specs.Tables.{ByFace}
use Rattle.pit_fib.proofs.RecordTallies.{contained, lowered, lowered_away, positive-insert, positive-remove}
use Rattle.pit_fib.proofs.record_tally.lower_face.Goals as goal
use Rattle.pit_fib.proofs.record_tally.lower_face.Goals.{After-insert}

pub returns-then-number-le1-clause-positive : goal.returns-then-number-le1-clause-positive
returns-then-number-le1-clause-positive c = subst ArePositive (sym c.remove.ensures) (positive-remove c.args.faces.now c.args.face c.requires.positive)

pub returns-then-number-le1-clause-lowered : goal.returns-then-number-le1-clause-lowered
returns-then-number-le1-clause-lowered c = λ f.
    let is : c.unwrap_or-number.result ≡ number c.args.faces.now c.args.face = c.unwrap_or-number.ensures ∙ ap (λ o. unwrap_or o 0) c.get.ensures in
    let some = c.requires.some in
    let most = c.if-number-le1.true in
    let away = lowered_away c.args.faces.now c.args.face (omega (arith, is, some, most)) f in
    let now : number c.remove.new.self f ≡ number _ f = ap (λ (m : ByFace). number m f) c.remove.ensures in
    omega (arith, away, now)

new : (c : After-insert) → c.insert.new.self ≡ insert c.args.faces.now c.args.face (c.unwrap_or-number.result - 1)
new c = c.insert.ensures.ok (c.insert.ensures.taken ∙ contained c.args.faces.now c.args.face c.requires.some)

pub returns-else-number-le1-clause-positive : goal.returns-else-number-le1-clause-positive
returns-else-number-le1-clause-positive c =
    let more = c.if-number-le1.false in
    subst ArePositive (sym (new c)) (positive-insert c.args.faces.now c.args.face (c.unwrap_or-number.result - 1) (omega (arith, more)) c.requires.positive)

pub returns-else-number-le1-clause-lowered : goal.returns-else-number-le1-clause-lowered
returns-else-number-le1-clause-lowered c = λ f.
    let more = c.if-number-le1.false in
    let less = lowered c.args.faces.now c.args.face c.unwrap_or-number.result (c.unwrap_or-number.result - 1) (c.unwrap_or-number.ensures ∙ ap (λ o. unwrap_or o 0) c.get.ensures) (omega (arith, more)) f in
    let now : number c.insert.new.self f ≡ number _ f = ap (λ (m : ByFace). number m f) (new c) in
    omega (arith, less, now)
