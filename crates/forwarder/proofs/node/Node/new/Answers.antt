use Rattle.std.proofs.Common.{sym, ap, subst, ◌∙◌}
use Rattle.content_store.specs.Store.{IsStore}
use Rattle.repo_core.specs.Objects.{AreObjects}
use Rattle.repo_core.specs.Repo.{RepoState}
use Rattle.repo_core.proofs.Stored.{none_are_objects}
use Rattle.forwarder.proofs.NewNodes.{new_sound}
use Rattle.forwarder.proofs.node.Node.new.Goals as goal

pub invariant_of-result : goal.invariant_of-result
invariant_of-result c = (
  new_sound _ c.new-3.ensures c.new-4.ensures.pending (ap (λ f. f.table) c.new-7.ensures.fib ∙ c.new-5.ensures.table),
  subst (λ (s : RepoState). AreObjects s.held.objects) (sym c.in-Ok-new.ensures) none_are_objects,
  subst IsStore (sym c.new-7.ensures.store) c.in-Ok.ensures.store,
)
