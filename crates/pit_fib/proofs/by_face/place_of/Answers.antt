use Rattle.std.proofs.Common.{◌≡◌, ap, sym, ◌∙◌, arith}
use Rattle.std.proofs.lemmas.List.{get_or_default}
use Rattle.std.specs.Prelude.{Some}
use Rattle.std.specs.declared.cmp.Ordering.TheVariants.{Less, Equal, Greater}
use Rattle.std.specs.Ordering.{nat_cmp}
use Rattle.std.specs.Cmp.{nat_cmp_total}
use Rattle.std.specs.FinMap.{nat_cmp-IsAntisymmetric}
use Rattle.ndn_names.proofs.Rows.{put_found, put_gap, put_end, find_found, find_gap, find_end, lower_more}
use Rattle.pit_fib.proofs.by_face.place_of.Goals as goal

pub returns-in-Equal-clause-found : goal.returns-in-Equal-clause-found
returns-in-Equal-clause-found g c =
    let places = c.args.places.now in
    let at = c.loop-at.at in
    let row = c.index-places-at.result in
    let is = c.index-places-at.is in
    let tie : nat_cmp c.args.face row.0 ≡ Equal = sym c.cmp.ensures ∙ c.in-Equal.is in (
      c.loop-at-test.true,
      put_found nat_cmp c.args.face places at row c.loop-at-test.true is c.loop-at.invariant tie (sym (nat_cmp-IsAntisymmetric c.args.face row.0 tie)),
      λ place place_is.
          let one : row ≡ place = is ∙ sym (get_or_default places at place row c.loop-at-test.true) ∙ sym place_is in
          find_found nat_cmp c.args.face places at row c.loop-at-test.true is c.loop-at.invariant tie ∙ ap (λ p. Some p.1) one,
    )

pub returns-in-Less-clause-absent : goal.returns-in-Less-clause-absent
returns-in-Less-clause-absent g c =
    let places = c.args.places.now in
    let at = c.loop-at.at in
    let row = c.index-places-at.result in
    let is = c.index-places-at.is in
    let less : nat_cmp c.args.face row.0 ≡ Less = sym c.cmp.ensures ∙ c.in-Less.is in (
      omega arith,
      put_gap nat_cmp c.args.face places at row c.loop-at-test.true is c.loop-at.invariant less,
      find_gap nat_cmp_total c.args.face places at row c.loop-at-test.true is c.loop-at.invariant less c.requires,
    )

pub loop-at-preserved : goal.loop-at-preserved
loop-at-preserved g c =
    let places = c.args.places.now in
    let at = c.loop-at.at in
    let row = c.index-places-at.result in
    let is = c.index-places-at.is in
    let greater : nat_cmp c.args.face row.0 ≡ Greater = sym c.cmp.ensures ∙ c.in-Greater.is in
    lower_more nat_cmp c.args.face places at row c.loop-at-test.true is c.loop-at.invariant greater

pub returns-clause-absent : goal.returns-clause-absent
returns-clause-absent g c = (
  omega arith,
  put_end nat_cmp c.args.face c.args.places.now c.loop-at.at c.loop-at-test.false c.loop-at.invariant,
  find_end nat_cmp c.args.face c.args.places.now c.loop-at.at c.loop-at-test.false c.loop-at.invariant,
)
