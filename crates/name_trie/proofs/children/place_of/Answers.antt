use Rattle.std.proofs.Common.{◌≡◌, ℕ, ◌<◌, length, get_or, ap, subst, sym, ◌∙◌, arith}
use Rattle.std.proofs.lemmas.List.{get_or_default}
use Rattle.std.specs.Prelude.{Some}
use Rattle.std.specs.declared.cmp.Ordering.TheVariants.{Less, Equal, Greater}
use Rattle.ndn_tlv.specs.Element.{Field}
use Rattle.ndn_names.specs.Order.{component_cmp}
use Rattle.ndn_names.specs.Key.{component_cmp-total, component_cmp-antisymmetric}
use Rattle.ndn_names.specs.View.{field_of}
use Rattle.ndn_names.proofs.Rows.{AllLower, put_found, find_found}
use Rattle.name_trie.proofs.Halves.{lower_before, lower_upto, gap_is}
use Rattle.name_trie.proofs.children.place_of.Goals as goal

pub loop-low-preserved-in-Greater : goal.loop-low-preserved-in-Greater
loop-low-preserved-in-Greater c =
    let rows = c.args.rows.now in
    let key = field_of c.args.component in
    let row = c.index-rows-mid.result in
    let is = c.index-rows-mid.is in
    let same : c.order_of.result ≡ component_cmp key row.0 = c.order_of.ensures ∙ ap (component_cmp key) (ap (λ (r : Field × ℕ). r.0) (sym is)) in
    let greater : component_cmp key row.0 ≡ Greater = sym same ∙ c.in-Greater.is in
    (omega arith, omega arith, lower_upto component_cmp-total key rows _ row (omega arith) is c.requires greater, c.loop-low.invariant.3)

pub returns-in-Equal-clause-found : goal.returns-in-Equal-clause-found
returns-in-Equal-clause-found c =
    let rows = c.args.rows.now in
    let key = field_of c.args.component in
    let row = c.index-rows-mid.result in
    let is = c.index-rows-mid.is in
    let same : c.order_of.result ≡ component_cmp key row.0 = c.order_of.ensures ∙ ap (component_cmp key) (ap (λ (r : Field × ℕ). r.0) (sym is)) in
    let tie : component_cmp key row.0 ≡ Equal = sym same ∙ c.in-Equal.is in
    let one : row.0 ≡ key = sym (component_cmp-antisymmetric key row.0 tie) in
    let low : AllLower component_cmp key _ = lower_before component_cmp-total key rows _ row (omega arith) is c.requires tie in (
      omega arith,
      put_found component_cmp key rows _ row (omega arith) is low tie one,
      λ place place_is.
          let same_row : row ≡ place = is ∙ sym (get_or_default rows _ place row (omega arith)) ∙ sym place_is in
          (ap (λ (p : Field × ℕ). p.0) (sym same_row) ∙ one, find_found component_cmp key rows _ row (omega arith) is low tie ∙ ap (λ (p : Field × ℕ). Some p.1) same_row),
    )

pub returns-clause-absent : goal.returns-clause-absent
returns-clause-absent c =
    let one : c.loop-low.high ≡ c.loop-low.low = omega arith in
    gap_is component_cmp-total (field_of c.args.component) c.args.rows.now c.loop-low.low (omega arith) c.loop-low.invariant.2
    (subst (λ n. (row : Field × ℕ) → n < length c.args.rows.now → row ≡ get_or c.args.rows.now n row → component_cmp (field_of c.args.component) row.0 ≡ Less) one c.loop-low.invariant.3)
    c.requires
