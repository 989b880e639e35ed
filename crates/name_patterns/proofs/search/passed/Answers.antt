use Rattle.std.proofs.Common.{◌≡◌, suc, ◌<◌, ◌+◌, List, ◌++◌, ◌∷◌, [], length, map, append_assoc, length-append, ap, ◌∙◌, arith}
use Rattle.std.proofs.lemmas.List.{map-append, length-map}
use Rattle.ndn_tlv.specs.Element.{Field}
use Rattle.ndn_names.specs.View.{field_of, components, components_left}
use Rattle.name_patterns.specs.Shown.{test_of}
use Rattle.name_patterns.proofs.Places.{no_place_from, all_passed}
use Rattle.name_patterns.proofs.Rows.{pushed}
use Rattle.name_patterns.proofs.search.passed.Goals as goal

pub loop-component-preserved : goal.loop-component-preserved
loop-component-preserved c =
    let inv = c.loop-component.invariant in
    let done = map field_of c.loop-component.yielded in
    let more : map field_of (c.loop-component.yielded ++ c.in-Some.component ∷ []) ≡ done ++ field_of c.in-Some.component ∷ [] = map-append field_of c.loop-component.yielded (c.in-Some.component ∷ []) in
    let len : length done ≡ c.loop-component.place = length-map c.loop-component.yielded field_of ∙ inv.1 in
    let whole : length (done ++ components_left c.loop-component.component-iterator) ≡ length (components c.args.name) = ap (λ (xs : List Field). length xs) inv.0 in
    let left : length (components_left c.loop-component.component-iterator) ≡ suc (length (components_left c.next.new.self)) = ap (λ (xs : List Field). length xs) c.in-Some.ensures.steps in
    let low : c.loop-component.place < 64 = omega (arith, whole, left, len, length-append done (components_left c.loop-component.component-iterator)) in
    let none = no_place_from c.loop-component.passed c.loop-component.place c.loop-component.place inv.3 (omega arith) in (
      rw (more, append_assoc) (rw c.in-Some.ensures.steps at inv.0),
      length-append c.loop-component.yielded (c.in-Some.component ∷ []) ∙ ap (λ n. n + 1) inv.1,
      omega (arith, c.passes.ensures.counted, inv.2),
      c.with_place-passed.ensures.small inv.3 low,
      rw more (pushed (test_of c.args.test.now) done (field_of c.in-Some.component) c.loop-component.passed c.with_place-passed.result c.loop-component.place inv.4 len
          (c.with_place-passed.ensures.there none ∙ c.passes.ensures.exact) c.with_place-passed.ensures.others),
    )

pub returns-then-is_anything-clause-exact : goal.returns-then-is_anything-clause-exact
returns-then-is_anything-clause-exact c =
    rw (c.is_anything.ensures.0 c.if-is_anything.true) (all_passed (components c.args.name) c.args.len c.requires.len.1 c.requires.len.0)
