use Rattle.std.proofs.Common.{sym, ap, ◌∙◌}
use Rattle.std.specs.Prelude.{unwrap_or}
use Rattle.std.specs.FinMap.{entries}
use Rattle.name_trie.specs.Least.{least}
use Rattle.pit_fib.specs.Kept.{Row, by_flags, deadline, lesser}
use Rattle.pit_fib.proofs.Rows.{entries-row_of, least_slots}
use Rattle.pit_fib.proofs.slots.Slots.deadline.Goals as goal

pub returns : goal.returns
returns c =
    c.unwrap_or.ensures ∙ ap (λ o. unwrap_or o 0) (c.lesser-all.ensures
    ∙ (λ i. lesser ((c.lesser.ensures ∙ (λ j. lesser ((c.lesser-exact.ensures ∙ (λ k. lesser (c.deadline_of.ensures k) (c.deadline_of-2.ensures k))) j) (c.deadline_of-3.ensures j))) i) (c.deadline_of-4.ensures i)))
    ∙ sym (least_slots deadline c.self.inside.exact c.self.inside.exact_fresh c.self.inside.prefix c.self.inside.prefix_fresh)
    ∙ ap (least deadline) (sym (entries-row_of (by_flags c.self.inside.exact c.self.inside.exact_fresh c.self.inside.prefix c.self.inside.prefix_fresh)))
    ∙ ap (λ (m : Row). least deadline (entries m)) c.self.view_is
