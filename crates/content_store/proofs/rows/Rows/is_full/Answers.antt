use Rattle.std.proofs.Common.{◌≡◌, true, false, ap, sym, ◌∙◌, arith}
use Rattle.content_store.specs.declared.rows.Row.{Row}
use Rattle.content_store.specs.Store.{full_name_of}
use Rattle.content_store.proofs.FullNames.{tie_is}
use Rattle.content_store.proofs.rows.Rows.is_full.Goals as goal

pub returns-clause-yes : goal.returns-clause-yes
returns-clause-yes c =
    λ t. (omega arith, λ d. ap (λ (r : Row). full_name_of r.entry) (c.row.ensures d) ∙ sym ((tie_is _ _ c.compare_full.result c.compare_full.ensures).0 (sym c.is_eq.ensures ∙ t)))

pub returns-clause-no : goal.returns-clause-no
returns-clause-no c =
    λ f d lt same. let t = c.is_eq.ensures ∙ (tie_is _ _ c.compare_full.result c.compare_full.ensures).1 (sym (ap (λ (r : Row). full_name_of r.entry) (sym (c.row.ensures d)) ∙ same)) in
    let clash : false ≡ true = sym f ∙ t in
    cc
