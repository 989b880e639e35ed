use Rattle.std.proofs.Common.{◌≡◌, ℕ, List, true, ap, sym, ◌∙◌}
use Rattle.std.specs.Prelude.{Some}
use Rattle.std.specs.Ordering.{eq_by_cmp, is_eq}
use Rattle.std.specs.Cmp.{tied_itself}
use Rattle.ndn_tlv.specs.Element.{Field}
use Rattle.ndn_names.specs.Order.{name_cmp}
use Rattle.ndn_names.specs.Key.{name_cmp-total, name_cmp-antisymmetric}
use Rattle.ndn_names.specs.View.{components}
use Rattle.name_trie.proofs.Revised.{equal}
use Rattle.name_trie.proofs.held.held_for.Goals as goal

pub returns-then-eq-clause-yes : goal.returns-then-eq-clause-yes
returns-then-eq-clause-yes c =
    let tie : eq_by_cmp name_cmp (components c.view.result) (components c.args.name) ≡ true = sym c.eq.ensures ∙ c.if-eq.true in
    let same : components c.view.result ≡ components c.args.name = name_cmp-antisymmetric (components c.view.result) (components c.args.name) (equal _ tie) in
    c.in-Some.is ∙ ap (λ name. Some (name, c.in-Some.k)) (sym c.view.ensures ∙ same)

first_same : (p q : List Field × ℕ) → Some p ≡ Some q → p.0 ≡ q.0
first_same p q is = (let same : p ≡ q = cc in ap (λ (r : List Field × ℕ). r.0) same)

pub returns-else-eq-clause-no : goal.returns-else-eq-clause-no
returns-else-eq-clause-no c = λ _ k is.
    let key : c.in-Some.key ≡ components c.args.name = first_same (c.in-Some.key, c.in-Some.k) (components c.args.name, k) (sym c.in-Some.is ∙ is) in
    let tie : eq_by_cmp name_cmp (components c.view.result) (components c.args.name) ≡ true =
    ap (λ n. eq_by_cmp name_cmp n (components c.args.name)) (c.view.ensures ∙ key) ∙ ap is_eq (tied_itself name_cmp-total (components c.args.name)) in
    let no = sym c.eq.ensures ∙ c.if-eq.false in
    cc
