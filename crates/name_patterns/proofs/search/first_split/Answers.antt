use Rattle.std.proofs.Common.{◌≡◌, ◌+◌, ◌*◌, ◌≤◌, List, length, drop, map, sym, ap, ◌∙◌, arith}
use Rattle.std.proofs.lemmas.List.{length-map, length-drop}
use Rattle.ndn_tlv.specs.Element.{Field}
use Rattle.ndn_names.specs.View.{components, components_left}
use Rattle.name_patterns.specs.Shown.{atom_of}
use Rattle.name_patterns.proofs.Rows.{within_product}
use Rattle.name_patterns.proofs.Walk.{walk_end, walk_no_end}
use Rattle.name_patterns.proofs.search.first_split.Goals as goal
use Rattle.name_patterns.proofs.search.first_split.Goals.{After-count_left, then-first-atoms+in_ok-place, else-first-atoms}

len_is : (c : After-count_left) → c.in_ok-first.first + c.count_left.result ≡ length (components c.args.name)
len_is c =
    let cs = components c.args.name in
    let left : components_left c.take_singles.new.components ≡ drop c.in_ok-first.first cs = c.in_ok-first.ensures.left ∙ ap (λ (xs : List Field). drop c.in_ok-first.first xs) c.iter-components.ensures in
    let len : length cs ≡ length (components_left c.iter-components.result) = ap (λ (xs : List Field). length xs) (sym c.iter-components.ensures) in
    omega (arith, c.count_left.ensures, ap (λ (xs : List Field). length xs) left, length-drop c.in_ok-first.first cs, len, c.in_ok-first.ensures.taken.1.1.fits)

pub take_others-requires-clause-len : goal.take_others-requires-clause-len
take_others-requires-clause-len c =
    let len = len_is ((goal.at.take_others-requires-clause-len c).After-count_left) in
    (len, omega (arith, len, c.args.name.spelled))

pub returns-then-place-len-clause-none : goal.returns-then-place-len-clause-none
returns-then-place-len-clause-none c =
    let cs = components c.args.name in
    let all = map atom_of c.args.atoms.now in
    let len = len_is ((goal.at.returns-then-place-len-clause-none c).After-count_left) in
    elim c.if-first-atoms.branch [
      | then-first-atoms+in_ok-place w ↦
          let t = w.in_ok-place.ensures.taken in
          walk_no_end all cs (length c.args.atoms.now) w.in_ok-place.place w.take_others.new.starts t.0 t.1 (sym (length-map c.args.atoms.now atom_of)) (omega (arith, w.place-is, len))
      | else-first-atoms w ↦
          let t = c.in_ok-first.ensures.taken in
          let here = rw c.iter-components.ensures at t.1.1 in
          walk_no_end all cs c.in_ok-first.first c.in_ok-first.first c.take_singles.new.starts t.1.0 here (omega (arith, length-map c.args.atoms.now atom_of)) (omega (arith, w.place-is, len))
    ]

pub returns-then-place-len-clause-cost : goal.returns-then-place-len-clause-cost
returns-then-place-len-clause-cost c =
    let cs = components c.args.name in
    let t = c.in_ok-first.ensures.taken in
    let here = rw c.iter-components.ensures at t.1.1 in
    let first : c.in_ok-first.first ≤ c.in_ok-first.first * length cs = within_product c.in_ok-first.first c.in_ok-first.first (length cs) (omega arith) here.fits in
    let all : c.in_ok-first.first ≤ length c.args.atoms.now * length cs = within_product c.in_ok-first.first (length c.args.atoms.now) (length cs) t.0 here.fits in
    elim c.if-first-atoms.branch [
      | then-first-atoms+in_ok-place w ↦ omega (arith, w.take_others.ensures.cost, c.in_ok-first.ensures.cost, w.tests-is)
      | else-first-atoms w ↦ omega (arith, c.in_ok-first.ensures.cost, w.tests-is)
    ]

pub returns-clause-found : goal.returns-clause-found
returns-clause-found c =
    let cs = components c.args.name in
    let all = map atom_of c.args.atoms.now in
    let len = len_is ((goal.at.returns-clause-found c).After-count_left) in
    elim c.if-first-atoms.branch [
      | then-first-atoms+in_ok-place w ↦
          let t = w.in_ok-place.ensures.taken in
          rw w.starts-is
          (walk_end all cs (length c.args.atoms.now) w.in_ok-place.place w.take_others.new.starts t.0 t.1 (sym (length-map c.args.atoms.now atom_of)) (omega (arith, w.place-is, len)))
      | else-first-atoms w ↦
          let t = c.in_ok-first.ensures.taken in
          let here = rw c.iter-components.ensures at t.1.1 in
          rw w.starts-is
          (walk_end all cs c.in_ok-first.first c.in_ok-first.first c.take_singles.new.starts t.1.0 here (omega (arith, length-map c.args.atoms.now atom_of)) (omega (arith, w.place-is, len)))
    ]

pub returns-clause-len : goal.returns-clause-len
returns-clause-len c = len_is ((goal.at.returns-clause-len c).After-count_left)
