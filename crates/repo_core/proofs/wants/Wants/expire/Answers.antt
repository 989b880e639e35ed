use Rattle.std.proofs.Common.{rules, ap, ◌∙◌, arith}
use Rattle.std.specs.Prelude.{nat_lt}
use Rattle.std.proofs.lemmas.Fn.{filter_same}
use Rattle.repo_core.specs.Wants.{wants_after, want_cmp}
use Rattle.repo_core.proofs.Kept.{from_kept, kept_sorted}
use Rattle.repo_core.proofs.wants.Wants.expire.Goals as goal

pub invariant_of-self : goal.invariant_of-self
invariant_of-self c = (
  kept_sorted want_cmp (λ w. nat_lt c.args.now w.1) c.self.inside.rows.items c.retain.new.self.items c.self.invariant.0
      (filter_same _ (λ w. nat_lt c.args.now w.1) _ (λ x b f' k. search rules) c.self.inside.rows.items c.retain.new.self.items c.retain.ensures.filtered),
  omega (arith, c.self.invariant.1, c.retain.ensures.capacity),
)

pub returns : goal.returns
returns c =
    from_kept want_cmp (λ w. nat_lt c.args.now w.1) c.self.inside.rows.items c.retain.new.self.items c.self.invariant.0
    (filter_same _ (λ w. nat_lt c.args.now w.1) _ (λ x b f' k. search rules) c.self.inside.rows.items c.retain.new.self.items c.retain.ensures.filtered)
    ∙ ap (wants_after c.args.now) c.self.view_is
