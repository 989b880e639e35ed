use Rattle.std.proofs.Common.{length, ap, sym, subst, ◌∙◌}
use Rattle.content_store.specs.Store.{IsStore, StoreState}
use Rattle.content_store.proofs.Changes.{length_held}
use Rattle.content_store.proofs.Least.{held_store}
use Rattle.content_store.proofs.store.Store.len.Goals as goal

pub returns-clause-exact : goal.returns-clause-exact
returns-clause-exact c =
    c.len.ensures.len ∙ sym (length_held c.self.inside.rows c.self.inside.used.entries c.self.inside.next c.self.invariant.sound) ∙ ap (λ (s : StoreState). length s.cached) c.self.view_is

pub returns-clause-store : goal.returns-clause-store
returns-clause-store c = subst IsStore c.self.view_is (held_store c.self.inside.rows c.self.inside.used c.self.inside.capacity c.self.inside.next c.self.invariant)
