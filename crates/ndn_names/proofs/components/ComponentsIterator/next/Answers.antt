use Rattle.std.proofs.Common.{arith, length, ap}
use Rattle.std.proofs.lemmas.Grind.{common_steps}
use Rattle.ndn_names.specs.View.{field_of}
use Rattle.ndn_names.proofs.Names.{front_shown, end_shown}
use Rattle.ndn_names.proofs.components.ComponentsIterator.next.Goals as goal

pub invariant_of-self : goal.invariant_of-self
invariant_of-self c =
    let e = c.in-Ok.ensures in
    let p = front_shown c.args.self.now.rest.now c.in-Ok.rest.now (field_of c.in-Ok.component) c.args.self.now.spelled e.front e.walk.0 in
    record { spelled = p.1 }

pub returns-in-Ok-clause-steps : goal.returns-in-Ok-clause-steps
returns-in-Ok-clause-steps c =
    let e = c.in-Ok.ensures in
    (front_shown c.args.self.now.rest.now c.in-Ok.rest.now (field_of c.in-Ok.component) c.args.self.now.spelled e.front e.walk.0).0

pub returns-in-Ok-clause-goes : goal.returns-in-Ok-clause-goes
returns-in-Ok-clause-goes c =
    let e = c.in-Ok.ensures in
    let p = ap length (front_shown c.args.self.now.rest.now c.in-Ok.rest.now (field_of c.in-Ok.component) c.args.self.now.spelled e.front e.walk.0).0 in
    grind (arith, common_steps)

pub returns-in-Err-clause-steps : goal.returns-in-Err-clause-steps
returns-in-Err-clause-steps c =
    let p = end_shown c.args.self.now.rest.now c.in-Err.field-0 c.args.self.now.spelled c.in-Err.ensures.walk in
    (p, p)
