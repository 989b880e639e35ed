use Rattle.std.proofs.Common.{◌≡◌, ◌<◌, ◌≤◌, Bool, true, false, get_or, length, take, refl, ap, sym, ◌∙◌, arith}
use Rattle.std.proofs.lemmas.List.{get_or_default, length-take, length-set}
use Rattle.std.proofs.lemmas.Bool.{le-ltb, lt-ltb}
use Rattle.std.specs.Prelude.{Some, None, is_some, nat_lt, ◌||◌}
use Rattle.std.proofs.Math.Seq.{take-set-lt}
use Rattle.std.specs.Ordering.{nat_cmp}
use Rattle.std.specs.Cmp.{nat_cmp_total}
use Rattle.std.specs.FinMap as map
use Rattle.std.specs.FinMap.{get-from_sorted}
use Rattle.pit_fib.specs.Tables.{ByFace}
use Rattle.ndn_names.proofs.Rows.{sorted_put, from_put, len-from_sorted}
use Rattle.pit_fib.proofs.by_face.Used.insert.Goals as goal

any_or : (a : Bool) {b : Bool} → b ≡ true → (a || b) ≡ true
any_or true e = refl
any_or false e = e

pub invariant_of-self : goal.invariant_of-self
invariant_of-self c =
    let rows = take c.self.inside.len c.self.inside.places in
    let found = c.in-Ok.ensures.found in
    let within : c.in-Ok.at < c.self.inside.len = omega (arith, found.0, length-take c.self.inside.len c.self.inside.places) in (
      (let whole = c.self.invariant.0 in simp length-set whole),
      c.self.invariant.1,
      sorted_put nat_cmp_total rows _ c.self.invariant.2 c.args.face c.args.number
          (take-set-lt c.self.inside.len c.self.inside.places c.in-Ok.at (c.args.face, c.args.number) within ∙ sym (found.1 c.args.number)),
    )

pub returns-in-Ok-clause-ok : goal.returns-in-Ok-clause-ok
returns-in-Ok-clause-ok c = λ _.
    let rows = take c.self.inside.len c.self.inside.places in
    let found = c.in-Ok.ensures.found in
    let within : c.in-Ok.at < c.self.inside.len = omega (arith, found.0, length-take c.self.inside.len c.self.inside.places) in
    from_put nat_cmp_total rows _ c.self.invariant.2 c.args.face c.args.number
    (take-set-lt c.self.inside.len c.self.inside.places c.in-Ok.at (c.args.face, c.args.number) within ∙ sym (found.1 c.args.number))
    ∙ ap (λ (m : ByFace). map.insert m c.args.face c.args.number) c.self.view_is

pub invariant_of-self-in-Err : goal.invariant_of-self-in-Err
invariant_of-self-in-Err c =
    let rows = take c.self.inside.len c.self.inside.places in
    let absent = c.in-Err.ensures.absent in
    let few = c.self.invariant.1 in (
      c.insert_at.auto.places ∙ c.self.invariant.0,
      omega (arith, few, c.if-self-eq-MAX_FACES.false),
      sorted_put nat_cmp_total rows _ c.self.invariant.2 c.args.face c.args.number (c.insert_at.ensures ∙ sym (absent.1 c.args.number)),
    )

pub returns-else-self-eq-MAX_FACES-clause-ok : goal.returns-else-self-eq-MAX_FACES-clause-ok
returns-else-self-eq-MAX_FACES-clause-ok c = λ _.
    let rows = take c.self.inside.len c.self.inside.places in
    let absent = c.in-Err.ensures.absent in
    from_put nat_cmp_total rows _ c.self.invariant.2 c.args.face c.args.number (c.insert_at.ensures ∙ sym (absent.1 c.args.number))
    ∙ ap (λ (m : ByFace). map.insert m c.args.face c.args.number) c.self.view_is

pub returns-then-self-eq-MAX_FACES-clause-full : goal.returns-then-self-eq-MAX_FACES-clause-full
returns-then-self-eq-MAX_FACES-clause-full c = λ _.
    let rows = take c.self.inside.len c.self.inside.places in
    let absent = c.in-Err.ensures.absent in
    let count : map.len c.args.self.now ≡ length rows = ap (λ (m : ByFace). map.len m) (sym c.self.view_is) ∙ len-from_sorted nat_cmp rows c.self.invariant.2 in (
      refl,
      ap (λ (m : ByFace). map.get m c.args.face) (sym c.self.view_is) ∙ get-from_sorted nat_cmp rows c.args.face c.self.invariant.2 ∙ absent.2,
      omega (arith, count, length-take c.self.inside.len c.self.inside.places, c.self.invariant.0, c.if-self-eq-MAX_FACES.true),
    )

pub returns-in-Ok-clause-taken : goal.returns-in-Ok-clause-taken
returns-in-Ok-clause-taken c =
    let rows = take c.self.inside.len c.self.inside.places in
    let found = c.in-Ok.ensures.found in
    let row = get_or rows c.in-Ok.at (0, 0) in
    let there : map.get c.args.self.now c.args.face ≡ Some row.1 =
    ap (λ (m : ByFace). map.get m c.args.face) (sym c.self.view_is) ∙ get-from_sorted nat_cmp rows c.args.face c.self.invariant.2
    ∙ found.2 row (get_or_default rows c.in-Ok.at (0, 0) row found.0) in
    sym (ap (λ o. is_some o || nat_lt (map.len c.args.self.now) 64) there)

pub returns-else-self-eq-MAX_FACES-clause-taken : goal.returns-else-self-eq-MAX_FACES-clause-taken
returns-else-self-eq-MAX_FACES-clause-taken c =
    let rows = take c.self.inside.len c.self.inside.places in
    let count : map.len c.args.self.now ≡ length rows = ap (λ (m : ByFace). map.len m) (sym c.self.view_is) ∙ len-from_sorted nat_cmp rows c.self.invariant.2 in
    let few : map.len c.args.self.now < 64 = omega (arith, count, length-take c.self.inside.len c.self.inside.places, c.self.invariant.0, c.self.invariant.1, c.if-self-eq-MAX_FACES.false) in
    sym (any_or (map.contains_key c.args.self.now c.args.face) (lt-ltb (map.len c.args.self.now) 64 few))

pub returns-then-self-eq-MAX_FACES-clause-taken : goal.returns-then-self-eq-MAX_FACES-clause-taken
returns-then-self-eq-MAX_FACES-clause-taken c =
    let rows = take c.self.inside.len c.self.inside.places in
    let absent = c.in-Err.ensures.absent in
    let none : map.get c.args.self.now c.args.face ≡ None =
    ap (λ (m : ByFace). map.get m c.args.face) (sym c.self.view_is) ∙ get-from_sorted nat_cmp rows c.args.face c.self.invariant.2 ∙ absent.2 in
    let count : map.len c.args.self.now ≡ length rows = ap (λ (m : ByFace). map.len m) (sym c.self.view_is) ∙ len-from_sorted nat_cmp rows c.self.invariant.2 in
    let full : 64 ≤ map.len c.args.self.now = omega (arith, count, length-take c.self.inside.len c.self.inside.places, c.self.invariant.0, c.if-self-eq-MAX_FACES.true) in
    sym (ap (λ o. is_some o || nat_lt (map.len c.args.self.now) 64) none ∙ le-ltb (map.len c.args.self.now) 64 full)
