use Rattle.std.proofs.Common.{◌≡◌, ◌⊎◌, inl, inr, true, false, [], ◌∷◌, ◌++◌, append_assoc, length, arith, length-append, ap, sym, ◌∙◌}
use Rattle.std.specs.Prelude.{Some, IsSome}
use Rattle.slab.specs.Slab.{get}
use Rattle.ndn_names.specs.View.{components, components_left, field_of}
use Rattle.name_trie.specs.Trie.{child, down, walk}
use Rattle.name_trie.specs.Changes.{IsBare}
use Rattle.name_trie.proofs.Tidy.{linked}
use Rattle.name_trie.proofs.Changed.{walk-append, begins, some_along}
use Rattle.name_trie.proofs.node.make_path.Given as given
use Rattle.name_trie.proofs.node.make_path.Goals as goal
use Rattle.name_trie.proofs.node.make_path.Goals.{After-step}

pub returns-in_err-at-clause-known : goal.returns-in_err-at-clause-known
returns-in_err-at-clause-known g c = λ some.
    let bad : false ≡ true = (c.in_err-at.ensures.known (begins (get c.args.nodes.now) c.args.root.now (components c.args.name) some)).0 in
    absurd cc

pub loop-component-init : goal.loop-component-init
loop-component-init g c = record {
  sound = c.start.ensures.sound;
  same = c.start.ensures.same;
  values = c.start.ensures.values;
  path = ([], c.iter-rest.ensures, c.in_ok-at.ensures.ok);
  bares = λ j b. elim (c.start.ensures.tidy j b) as (λ _. (c.in_ok-at.at ≡ j) ⊎ IsBare (get c.args.nodes.now) j) [
    | (inl new) ↦ inl (let same = sym c.in_ok-at.was ∙ new in cc)
    | (inr old) ↦ inr old
  ];
  known = λ some.
      let h = get c.start.new.nodes in
      let name = components c.args.name in
      let same = c.start.ensures.known (begins (get c.args.nodes.now) c.args.root.now name some) in
      some_along _ _
      (ap (λ r. walk h r (components_left c.iter-rest.result)) (sym c.in_ok-at.ensures.ok)
      ∙ ap (walk h c.start.new.root) c.iter-rest.ensures
      ∙ ap (λ n. walk (get n) c.start.new.root name) same.1 ∙ ap (λ r. walk (get c.args.nodes.now) r name) same.2)
      some;
}

pub step-requires-clause-room : goal.step-requires-clause-room
step-requires-clause-room g c =
    let path = c.loop-component.invariant.path in
    let x = field_of c.in-Some.component in
    let rest = components_left c.next.new.self in
    let whole : path.0 ++ (x ∷ rest) ≡ components c.args.name = ap (λ l. path.0 ++ l) (sym c.in-Some.ensures.steps) ∙ path.1 in
    (path.0, omega (arith, length-append path.0 (x ∷ rest), ap length whole, c.args.name.spelled.1.0), path.2)

-- if the whole name led to a node before the call, then the child for the next component exists,
-- and the components after the next component lead from this child to a node
next_known : (g : given.Over) (c : After-step g) → IsSome (walk (get c.args.nodes.now) c.args.root.now (components c.args.name))
    → IsSome (walk (get c.loop-component.nodes) (child (get c.loop-component.nodes) c.loop-component.at (field_of c.in-Some.component)) (components_left c.next.new.self))
next_known g c some =
    some_along _ _ (sym (ap (walk (get c.loop-component.nodes) (Some c.loop-component.at)) c.in-Some.ensures.steps)) (c.loop-component.invariant.known some)

pub loop-component-preserved : goal.loop-component-preserved
loop-component-preserved g c =
    let h = get c.loop-component.nodes in
    let h' = get c.step.new.nodes in
    let root = c.loop-component.root in
    let x = field_of c.in-Some.component in
    let rest = components_left c.next.new.self in
    let before = c.loop-component.invariant in
    let front = before.path.0 in
    let at = c.loop-component.at in
    let leads : child h' at x ≡ Some c.in-Ok.k = c.in-Ok.ensures.ok in
    record {
      sound = c.step.ensures.sound;
      same = λ q. c.step.ensures.same q ∙ before.same q;
      values = λ j. c.step.ensures.values j ∙ before.values j;
      path = (
        front ++ x ∷ [],
        append_assoc front (x ∷ []) rest ∙ ap (λ l. front ++ l) (sym c.in-Some.ensures.steps) ∙ before.path.1,
        walk-append h' root front (x ∷ []) ∙ ap (λ o. down h' o x) (c.step.ensures.kept front at before.path.2) ∙ leads,
      );
      bares = λ j b. elim (c.step.ensures.tidy j b) as (λ _. (c.in-Ok.k ≡ j) ⊎ IsBare (get c.args.nodes.now) j) [
        | (inl new) ↦ inl (let same = sym c.in-Ok.is ∙ new in cc)
        | (inr was) ↦ elim (before.bares j was) as (λ _. (c.in-Ok.k ≡ j) ⊎ IsBare (get c.args.nodes.now) j) [
          | (inl is) ↦ absurd (linked h' at x c.in-Ok.k leads j b (sym is))
          | (inr old) ↦ inr old
        ]
      ];
      known = λ some.
          let next = next_known g (goal.at.loop-component-preserved g c).After-step some in
          let same = c.step.ensures.known (begins h (child h at x) rest next) in
          some_along _ _ (ap (λ o. walk h' o rest) (sym leads) ∙ ap (λ n. walk (get n) (child (get n) at x) rest) same.1) next;
    }

pub returns-in-Err-clause-known : goal.returns-in-Err-clause-known
returns-in-Err-clause-known g c = λ some.
    let h = get c.loop-component.nodes in
    let next = next_known g (goal.at.returns-in-Err-clause-known g c).After-step some in
    (c.in-Err.ensures.known (begins h (child h c.loop-component.at (field_of c.in-Some.component)) (components_left c.next.new.self) next)).0
