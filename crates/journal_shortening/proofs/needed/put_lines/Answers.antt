use Rattle.std.proofs.Common.{refl, arith}
use Rattle.journal_shortening.proofs.Keeping.{done, done_early, so_far_line}
use Rattle.journal_shortening.proofs.needed.put_lines.Goals as goal

pub returns-in_default : goal.returns-in_default
returns-in_default c =
    done_early c.args.needed.now c.args.journal.now c.args.text.now.items c.loop-is_needed.is_needed-index c.loop-is_needed.rest.now c.loop-is_needed.text.items
    c.loop-is_needed.invariant c.loop-is_needed-test.true c.in_default.ensures.none

pub loop-is_needed-preserved : goal.loop-is_needed-preserved
loop-is_needed-preserved c =
    so_far_line c.args.needed.now c.args.journal.now c.args.text.now.items c.loop-is_needed.is_needed-index c.loop-is_needed.rest.now c.loop-is_needed.text.items
    c.in-Some.line.now c.in-Some.after.now _ _
    c.loop-is_needed.invariant c.loop-is_needed-test.true refl c.in-Some.ensures.found.0 c.in-Some.ensures.found.1 c.in_ok-put_line.ensures

pub returns : goal.returns
returns c =
    done c.args.needed.now c.args.journal.now c.args.text.now.items c.loop-is_needed.is_needed-index c.loop-is_needed.rest.now c.loop-is_needed.text.items
    c.loop-is_needed.invariant (omega (arith, c.loop-is_needed-test.false, c.loop-is_needed.auto.is_needed-index-end))
