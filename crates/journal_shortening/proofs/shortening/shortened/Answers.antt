use Rattle.std.proofs.Common.{arith}
use Rattle.journal_shortening.proofs.shortening.shortened.Goals as goal

pub returns : goal.returns
returns c = record {
  lines = (c.in_ok-needed.needed.lines.items, c.in_ok-needed.needed.moment, rw c.new-text.ensures.items at c.in_ok-put_needed.ensures.ok);
  shorter = omega (arith, c.if-len-journal.false, c.len.ensures);
  tables = rw c.deref.ensures.value at c.in_ok-restores_same.ensures.tables c.if-not-branch.false;
  rules = rw c.deref.ensures.value at c.in_ok-restores_same.ensures.rules c.if-not-branch.false;
}
