use Rattle.std.proofs.Common.{rules}
use Rattle.pit_fib.proofs.entry.Entry.loops.Goals as goal

pub returns-then-others_ask_with : goal.returns-then-others_ask_with
returns-then-others_ask_with c = search rules

pub returns-else-others_ask_with : goal.returns-else-others_ask_with
returns-else-others_ask_with c = search rules
