use Rattle.std.proofs.Common.{arith}
use Rattle.ndn_names.specs.View.{components, components_left, field_of}
use Rattle.ndn_names.proofs.Prefixes.{left_after, prefix_shown}
use Rattle.ndn_names.proofs.name.Name.prefix.Goals as goal

pub loop-preserved : goal.loop-preserved
loop-preserved c =
    left_after field_of c.next.result (components c.args.self.now) (components_left c.loop.after) (components_left c.next.new.self) c.loop.counter c.loop.invariant (omega (arith, c.requires, c.loop-test.true)) c.next.ensures.steps

pub slice_bounds-result-count : goal.slice_bounds-result-count
slice_bounds-result-count c =
    (prefix_shown c.args.self.now.octets.now c.loop.after.rest.now c.args.n c.loop.counter c.args.self.now.spelled c.loop.after.spelled c.loop.invariant c.loop.auto.counter-end c.loop-test.false).0

pub invariant_of-result : goal.invariant_of-result
invariant_of-result c =
    record { spelled = (prefix_shown c.args.self.now.octets.now c.loop.after.rest.now c.args.n c.loop.counter c.args.self.now.spelled c.loop.after.spelled c.loop.invariant c.loop.auto.counter-end c.loop-test.false).2 }

pub returns : goal.returns
returns c =
    (prefix_shown c.args.self.now.octets.now c.loop.after.rest.now c.args.n c.loop.counter c.args.self.now.spelled c.loop.after.spelled c.loop.invariant c.loop.auto.counter-end c.loop-test.false).1
