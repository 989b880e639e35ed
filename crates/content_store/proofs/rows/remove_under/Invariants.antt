use Rattle.std.proofs.Common.{◌≡◌, ◌-◌, ◌≤◌, ℕ}
use Rattle.slab.specs.Slab.{get}
use Rattle.ndn_names.specs.View.{components}
use Rattle.content_store.specs.Rows.{IsLower, IsRows, shown}
use Rattle.content_store.specs.Uses.{Sound, without_range}
use Rattle.content_store.proofs.Erased.{TakenSoFar}
use Rattle.content_store.proofs.rows.remove_under.Given as goal

abbrev pub invariant-loop-end : goal.invariant-loop-end
invariant-loop-end l = record {
  rows : IsRows (get l.entries) (without_range l.start l.end l.order);
  lower : IsLower (components l.name) (shown (get l.entries) (without_range l.start l.end l.order)) l.start;
  left : shown (get l.entries) (without_range l.start l.end l.order) ≡ without_range l.start l.end (shown (get l.initial.entries) l.order);
  at_most : l.end - l.start ≤ l.most;
  cap : l.used.cap ≡ l.initial.used.cap;
  taken : (next : ℕ) → Sound (shown (get l.initial.entries) l.order) l.initial.used.entries next
      → TakenSoFar (components l.name) (shown (get l.initial.entries) l.order) l.initial.used (shown (get l.entries) (without_range l.start l.end l.order)) l.used next (l.end - l.start);
}
