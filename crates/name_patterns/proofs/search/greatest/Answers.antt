use Rattle.std.proofs.Common.{◌+◌, ◌-◌, ◌≤◌, ◌<◌, sym, arith}
use Rattle.name_patterns.proofs.Places.{skipped, greatest_taken, greatest_not_taken}
use Rattle.name_patterns.proofs.search.greatest.Goals as goal
use Rattle.name_patterns.proofs.search.greatest.Goals.{else-skipped-most-via-then-skipped-most+else-least-most, else-skipped-most-via-else-skipped-most}

pub returns-then-least-most : goal.returns-then-least-most
returns-then-least-most c =
    let skips : skipped c.args.after (c.args.place + c.args.most) ≤ c.args.most = rw c.from.ensures at c.if-skipped-most.true in
    let enough : c.args.least ≤ c.args.most - skipped c.args.after (c.args.place + c.args.most) = rw c.from.ensures at c.if-least-most.true in
    rw c.from.ensures (sym (greatest_taken c.args.after c.args.place c.args.least c.args.most (omega arith) skips enough))

pub returns : goal.returns
returns c = elim c.else-skipped-most.branch [
  | else-skipped-most-via-then-skipped-most+else-least-most w ↦
      let few : c.args.most - skipped c.args.after (c.args.place + c.args.most) < c.args.least = rw c.from.ensures at w.if-least-most.false in
      let skips : skipped c.args.after (c.args.place + c.args.most) ≤ c.args.most = rw c.from.ensures at w.if-skipped-most.true in
      sym (greatest_not_taken c.args.after c.args.place c.args.least c.args.most (omega arith) (omega arith))
  | else-skipped-most-via-else-skipped-most w ↦
      let many : c.args.most < skipped c.args.after (c.args.place + c.args.most) = rw c.from.ensures at w.if-skipped-most.false in
      sym (greatest_not_taken c.args.after c.args.place c.args.least c.args.most (omega arith) (omega arith))
]
