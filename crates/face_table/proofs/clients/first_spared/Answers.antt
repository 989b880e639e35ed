use Rattle.std.proofs.Common.{◌+◌, arith, refl, subst, sym}
use Rattle.face_table.proofs.Spared.{IsFound, IsFound-longer, IsFound-passed, IsFound-unlonger, IsSparedAt, longest_spared, none_spared}
use Rattle.face_table.proofs.clients.first_spared.Goals as goal
use Rattle.face_table.proofs.clients.first_spared.Goals.{then-is_spared+then-is_longer, else-is_spared, else-is_spared-via-then-is_spared+else-is_longer, else-is_spared-via-else-is_spared}

pub loop-place-preserved : goal.loop-place-preserved
loop-place-preserved c =
    let Goes = IsSparedAt c.args.now c.args.clients.now c.args.told.now in
    let clients = c.args.clients.now in
    let place = c.loop-place.place in
    let found = c.loop-place.first in
    let so_far = c.loop-place.invariant in
    let below = c.loop-place-test.true in
    elim c.if-is_spared.branch [
      | then-is_spared+then-is_longer w ↦ subst (IsFound Goes clients (place + 1)) (sym w.first-is)
          (IsFound-longer Goes clients place found so_far below (c.is_spared.ensures.0 w.if-is_spared.true) (w.if-is_longer.ensures.yes refl))
      | else-is_spared w ↦ subst (IsFound Goes clients (place + 1)) (sym w.first-is) (elim w.else-is_spared.branch [
        | else-is_spared-via-then-is_spared+else-is_longer v ↦ IsFound-unlonger Goes clients place found so_far below (v.if-is_longer.ensures.no refl)
        | else-is_spared-via-else-is_spared v ↦ IsFound-passed Goes clients place found so_far (λ goes. absurd (cc (c.is_spared.ensures.1 goes, v.if-is_spared.false)))
      ])
    ]

pub returns-clause-none : goal.returns-clause-none
returns-clause-none c = none_spared c.args.now c.args.clients.now c.args.told.now c.requires c.loop-place.place c.loop-place.first c.loop-place.invariant (omega arith)

pub returns-clause-longest : goal.returns-clause-longest
returns-clause-longest c = longest_spared c.args.now c.args.clients.now c.args.told.now c.requires c.loop-place.place c.loop-place.first c.loop-place.invariant (omega arith) (omega arith)
