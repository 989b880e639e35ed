use Rattle.std.proofs.Common.{sym, ap, ◌∙◌}
use Rattle.replay_guard.specs.Guard.{GuardState}
use Rattle.replay_guard.specs.Rows.{HasAll}
use Rattle.replay_guard.proofs.Rows.{same_table}
use Rattle.replay_guard.proofs.guard.Guard.has_same_times.Goals as goal

pub returns-then-has_all : goal.returns-then-has_all
returns-then-has_all c = λ yes.
    let rows = c.self.inside.rows.items in
    let others = c.other.inside.rows.items in
    let ours : HasAll rows others = rw c.deref.ensures.value at (rw c.deref-2.ensures.value at (c.has_all.ensures c.if-has_all.true)) in
    let theirs : HasAll others rows = rw c.deref-then-has_all.ensures.value at (rw c.deref-then-has_all-2.ensures.value at (c.has_all-then-has_all.ensures yes)) in
    sym (ap (λ (g : GuardState). g.latest) c.self.view_is) ∙ same_table rows others ours theirs ∙ ap (λ (g : GuardState). g.latest) c.other.view_is
