use Rattle.std.proofs.Common.{rules, ap, ◌∙◌, arith, not}
use Rattle.std.specs.Ordering.{eq_by_cmp}
use Rattle.std.proofs.lemmas.Fn.{filter_same}
use Rattle.std.specs.FinMap as map
use Rattle.ndn_names.specs.View.{components}
use Rattle.repo_core.specs.Wants.{WantKey, want_cmp, want_cmp-total, want_cmp-antisymmetric}
use Rattle.ndn_names.proofs.Rows.{sorted_without, from_without}
use Rattle.repo_core.proofs.wants.Wants.remove.Goals as goal

pub invariant_of-self : goal.invariant_of-self
invariant_of-self c =
    let key : WantKey = (components c.args.name, c.args.can_be_prefix) in
    let kept = filter_same _ (λ row. not (eq_by_cmp want_cmp row.0 key)) _ (λ x b f' k. search rules) c.self.inside.rows.items c.retain.new.self.items c.retain.ensures.filtered in (
      sorted_without want_cmp-total want_cmp-antisymmetric c.self.inside.rows.items c.retain.new.self.items c.self.invariant.0 key kept,
      omega (arith, c.self.invariant.1, c.retain.ensures.capacity),
    )

pub returns : goal.returns
returns c =
    let key : WantKey = (components c.args.name, c.args.can_be_prefix) in
    let kept = filter_same _ (λ row. not (eq_by_cmp want_cmp row.0 key)) _ (λ x b f' k. search rules) c.self.inside.rows.items c.retain.new.self.items c.retain.ensures.filtered in
    from_without want_cmp-total want_cmp-antisymmetric c.self.inside.rows.items c.retain.new.self.items c.self.invariant.0 key kept
    ∙ ap (λ t. map.remove t key) c.self.view_is
