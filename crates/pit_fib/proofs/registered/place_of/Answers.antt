use Rattle.std.proofs.Common.{◌≡◌, ℕ, List, get_or, ap, sym, ◌∙◌, arith}
use Rattle.std.proofs.lemmas.List.{get_or_default}
use Rattle.std.specs.Prelude.{Some}
use Rattle.std.specs.declared.cmp.Ordering.TheVariants.{Less, Equal, Greater}
use Rattle.ndn_names.proofs.Rows.{put_found, put_gap, put_end, find_found, find_gap, find_end, lower_more}
use Rattle.pit_fib.specs.declared.route.Route.{Route}
use Rattle.pit_fib.specs.declared.route.RouteKey.{RouteKey}
use Rattle.pit_fib.specs.Route.{route_cmp, route_cmp-total, route_cmp-antisymmetric}
use Rattle.pit_fib.proofs.Routes.{no_row}
use Rattle.pit_fib.proofs.registered.place_of.Goals as goal

abbrev row_at : List (RouteKey × Route) → ℕ → RouteKey × Route
row_at rows at = get_or rows at no_row

pub returns-in-Equal-clause-found : goal.returns-in-Equal-clause-found
returns-in-Equal-clause-found c =
    let rows = c.args.rows.now in
    let at = c.loop-at.at in
    let row = row_at c.args.rows.now c.loop-at.at in
    let is : row ≡ get_or c.args.rows.now c.loop-at.at row = get_or_default c.args.rows.now c.loop-at.at no_row row c.loop-at-test.true in
    let tie : route_cmp c.args.key row.0 ≡ Equal = sym c.compare.ensures ∙ c.in-Equal.is in (
      c.loop-at-test.true,
      put_found route_cmp c.args.key rows at row c.loop-at-test.true is c.loop-at.invariant tie (sym (route_cmp-antisymmetric c.args.key row.0 tie)),
      λ place place_is.
          let one : row ≡ place = is ∙ sym (get_or_default rows at place row c.loop-at-test.true) ∙ sym place_is in
          find_found route_cmp c.args.key rows at row c.loop-at-test.true is c.loop-at.invariant tie ∙ ap (λ p. Some p.1) one,
    )

pub returns-in-Less-clause-absent : goal.returns-in-Less-clause-absent
returns-in-Less-clause-absent c =
    let rows = c.args.rows.now in
    let at = c.loop-at.at in
    let row = row_at c.args.rows.now c.loop-at.at in
    let is : row ≡ get_or c.args.rows.now c.loop-at.at row = get_or_default c.args.rows.now c.loop-at.at no_row row c.loop-at-test.true in
    let less : route_cmp c.args.key row.0 ≡ Less = sym c.compare.ensures ∙ c.in-Less.is in (
      omega arith,
      put_gap route_cmp c.args.key rows at row c.loop-at-test.true is c.loop-at.invariant less,
      find_gap route_cmp-total c.args.key rows at row c.loop-at-test.true is c.loop-at.invariant less c.requires,
    )

pub loop-at-preserved : goal.loop-at-preserved
loop-at-preserved c =
    let row = row_at c.args.rows.now c.loop-at.at in
    let is : row ≡ get_or c.args.rows.now c.loop-at.at row = get_or_default c.args.rows.now c.loop-at.at no_row row c.loop-at-test.true in
    let greater : route_cmp c.args.key row.0 ≡ Greater = sym c.compare.ensures ∙ c.in-Greater.is in
    lower_more route_cmp c.args.key c.args.rows.now c.loop-at.at row c.loop-at-test.true is c.loop-at.invariant greater

pub returns-clause-absent : goal.returns-clause-absent
returns-clause-absent c = (
  omega arith,
  put_end route_cmp c.args.key c.args.rows.now c.loop-at.at c.loop-at-test.false c.loop-at.invariant,
  find_end route_cmp c.args.key c.args.rows.now c.loop-at.at c.loop-at-test.false c.loop-at.invariant,
)
