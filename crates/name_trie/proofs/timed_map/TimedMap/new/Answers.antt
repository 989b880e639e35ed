use Rattle.std.proofs.Common.{ap, sym, ◌∙◌, rules, get_or}
use Rattle.ndn_names.specs.Order.{name_cmp}
use Rattle.std.specs.FinMap.{entries}
use Rattle.ndn_names.proofs.Rows.{no_entries}
use Rattle.name_trie.specs.Flat.{total}
use Rattle.std.specs.Prelude.{None}
use Rattle.slab.specs.Slab.{get}
use Rattle.name_trie.specs.Trie.{Sound}
use Rattle.name_trie.specs.Changes.{IsTidy}
use Rattle.name_trie.proofs.Walks.{empty_table}
use Rattle.name_trie.proofs.Rings.{nothing_timed}
use Rattle.name_trie.proofs.timed_map.TimedMap.new.Goals as goal

pub invariant_of-result : goal.invariant_of-result
invariant_of-result g c =
    let none = c.new.ensures.empty in
    let sound : Sound (get c.new.result) None = search rules in
    let tidy : IsTidy (get c.new.result) None = search rules in
    (sound, tt, tidy, nothing_timed g.V.Timed.timer (get c.new.result) c.new-2.result.timers (λ j. ap (λ l. get_or l j None) none) c.new-2.ensures, tt, λ i. c.new-3.ensures i ∙ ap (total (g.S.Tally.counts i)) (sym (ap entries (empty_table (get c.new.result)) ∙ no_entries name_cmp)))

pub returns-clause-table : goal.returns-clause-table
returns-clause-table g c = empty_table (get c.new.result)
