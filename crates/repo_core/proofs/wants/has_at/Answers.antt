use Rattle.std.proofs.Common.{◌≡◌, sym, ap, ◌∙◌}
use Rattle.std.specs.Cmp.{Equal-is, tied_itself}
use Rattle.std.specs.Ordering.{is_eq}
use Rattle.ndn_names.specs.View.{components}
use Rattle.repo_core.specs.Wants.{WantKey, want_cmp, want_cmp-total, want_cmp-antisymmetric}
use Rattle.repo_core.proofs.Places.{get_or_same}
use Rattle.repo_core.proofs.wants.has_at.Goals as goal

pub returns : goal.returns
returns c =
    let key : WantKey = (components c.args.name, c.args.can_be_prefix) in
    let row = c.index-rows-at.result in
    let tie : c.is_eq.result ≡ is_eq (want_cmp row.0 key) = c.is_eq.ensures ∙ ap is_eq c.order_of.ensures in (
      λ t. (
        c.if-at-rows.false,
        λ other is. ap (λ r. r.0) (is ∙ get_or_same c.args.rows.now c.args.at other row c.if-at-rows.false ∙ sym c.index-rows-at.is)
            ∙ want_cmp-antisymmetric row.0 key ((Equal-is (want_cmp row.0 key)).0 (sym tie ∙ t)),
      ),
      λ has. tie ∙ (Equal-is (want_cmp row.0 key)).1 (ap (λ k. want_cmp row.0 k) (sym (has.1 row c.index-rows-at.is)) ∙ tied_itself want_cmp-total row.0),
    )
