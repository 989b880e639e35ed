use Rattle.std.proofs.Common.{rules, ap, ◌∙◌, not}
use Rattle.std.proofs.lemmas.Fn.{filter_same}
use Rattle.ndn_names.specs.Order.{name_cmp}
use Rattle.ndn_names.specs.View.{components}
use Rattle.repo_core.specs.Objects.{full_name_answers, without_answering}
use Rattle.repo_core.proofs.Kept.{from_kept, kept_sorted}
use Rattle.repo_core.proofs.objects.Objects.remove.Goals as goal

pub invariant_of-self : goal.invariant_of-self
invariant_of-self c =
    let name = components c.args.name in
    kept_sorted name_cmp (λ o. not (full_name_answers name c.args.can_be_prefix o.0)) c.self.inside.rows.items c.retain.new.self.items c.self.invariant
    (filter_same _ (λ o. not (full_name_answers name c.args.can_be_prefix o.0)) _ (λ x b f' k. search rules) c.self.inside.rows.items c.retain.new.self.items c.retain.ensures.filtered)

pub returns-clause-table : goal.returns-clause-table
returns-clause-table c =
    let name = components c.args.name in
    from_kept name_cmp (λ o. not (full_name_answers name c.args.can_be_prefix o.0)) c.self.inside.rows.items c.retain.new.self.items c.self.invariant
    (filter_same _ (λ o. not (full_name_answers name c.args.can_be_prefix o.0)) _ (λ x b f' k. search rules) c.self.inside.rows.items c.retain.new.self.items c.retain.ensures.filtered)
    ∙ ap (λ t. without_answering name c.args.can_be_prefix t.table) c.self.view_is
