use Rattle.std.proofs.Common.{codes}
use Rattle.ndn_log.specs.Words.{counted}
use Rattle.ndn_log.proofs.Steps.{two_steps}
use Rattle.ndn_log.proofs.notes.put_lines.Goals as goal

pub returns : goal.returns
returns c =
    two_steps c.put_count.result c.args.text.now.items c.put_word.new.text.items c.put_count.new.text.items (codes ", replayed ") (counted c.args.count (codes "journal line")) c.in_ok-put_word.ensures c.put_count.ensures
