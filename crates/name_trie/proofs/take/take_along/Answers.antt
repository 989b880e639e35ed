use Rattle.std.proofs.Common.{◌≡◌, ℕ, ◌⊎◌, inl, inr, true, false, List, [], ◌∷◌, ◌++◌, append_assoc, arith, refl, ap, sym, ◌∙◌}
use Rattle.std.proofs.lemmas.List.{append-nil}
use Rattle.std.specs.Prelude.{Option, Some, None, IsTrue, IfSome, MatchOption}
use Rattle.std.specs.Option.{option_and_then}
use Rattle.slab.specs.Slab.{get}
use Rattle.ndn_names.specs.View.{components, components_left, field_of}
use Rattle.ndn_tlv.specs.Element.{Field}
use Rattle.name_trie.specs.declared.take.End.{End}
use Rattle.name_trie.specs.Trie.{child, down, walk, lookup}
use Rattle.name_trie.specs.Changes.{IsBare}
use Rattle.name_trie.specs.Taken.{taken, taken_along, changed_along}
use Rattle.name_trie.proofs.Along.{before, next_before, last_own, cut_short, still, step_along, nothing_taken, nothing_below}
use Rattle.name_trie.proofs.Changed.{walk-append, same_or}
use Rattle.name_trie.proofs.Closed.{walk_turned, sound_turned, bare_turned}
use Rattle.name_trie.proofs.Totals.{counted_turned, has_counts}
use Rattle.name_trie.proofs.Walks.{walk_none}
use Rattle.name_trie.proofs.take.take_along.Given as given
use Rattle.name_trie.proofs.take.take_along.Goals as goal

untouched : {V : Type 0} (own below : V → Option V) (q : List Field) (o : Option V) → o ≡ option_and_then (before own below q []) o
untouched own below [] None = refl
untouched own below [] (Some v) = refl
untouched own below (c ∷ q) None = refl
untouched own below (c ∷ q) (Some v) = refl

same_some : (a b : ℕ) → Some a ≡ Some b → a ≡ b
same_some a b e = cc

pub take_at-requires-clause-timed : goal.take_at-requires-clause-timed
take_at-requires-clause-timed g c = c.loop-next.invariant.timed

pub take_at-requires-clause-has : goal.take_at-requires-clause-has
take_at-requires-clause-has g c =
    has_counts g.S.Tally.counts (get c.loop-next.nodes) c.args.root c.loop-next.invariant.sound (g.S.Tally.sum c.loop-next.tally) c.loop-next.invariant.counted c.in-Some.at

pub take_at-requires-clause-fewer : goal.take_at-requires-clause-fewer
take_at-requires-clause-fewer g c = c.requires.fewer true

pub take_at-requires-in-Some-clause-timed : goal.take_at-requires-in-Some-clause-timed
take_at-requires-in-Some-clause-timed g c = c.loop-next.invariant.timed

pub take_at-requires-in-Some-clause-has : goal.take_at-requires-in-Some-clause-has
take_at-requires-in-Some-clause-has g c =
    has_counts g.S.Tally.counts (get c.loop-next.nodes) c.args.root c.loop-next.invariant.sound (g.S.Tally.sum c.loop-next.tally) c.loop-next.invariant.counted c.in-Some.at

pub take_at-requires-in-Some-clause-fewer : goal.take_at-requires-in-Some-clause-fewer
take_at-requires-in-Some-clause-fewer g c = c.requires.fewer false

pub loop-next-init : goal.loop-next-init
loop-next-init g c = record {
  sound = c.requires.sound;
  timed = c.requires.timed;
  counted = c.requires.counted;
  few = omega arith;
  capacity = omega arith;
  walks = λ q. refl;
  path = ([], c.iter-rest.ensures, refl, λ q. untouched (g.T.Take.left true) (g.T.Take.left false) q (lookup (get c.args.nodes.now) c.args.root q), ap (taken_along (g.T.Take.taken true) (g.T.Take.taken false) c.args.how.now (lookup (get c.args.nodes.now) c.args.root) []) c.iter-rest.ensures);
  bares = λ j bare. inl bare;
  link = λ a b is next. absurd cc;
  part = tt;
}

pub loop-next-preserved : goal.loop-next-preserved
loop-next-preserved g c =
    let own = g.T.Take.left true in
    let below = g.T.Take.left false in
    let h0 = get c.args.nodes.now in
    let h = get c.loop-next.nodes in
    let h' = get c.take_at-in-Some.new.nodes in
    let root = c.args.root in
    let k = c.in-Some.at in
    let x = field_of c.in-Some-next.component in
    let rest = components_left c.next.new.self in
    let before = c.loop-next.invariant in
    let path = before.path in
    let turns = c.take_at-in-Some.ensures.turns in
    let at : walk h root path.0 ≡ Some k = path.2 ∙ c.in-Some.is in
    record {
      sound = sound_turned k _ h h' turns root before.sound;
      timed = c.take_at-in-Some.ensures.timed;
      counted = counted_turned g.S.Tally.counts k _ h h' turns root before.sound below refl (g.S.Tally.sum c.loop-next.tally) (g.S.Tally.sum c.take_at-in-Some.new.tally) c.take_at-in-Some.ensures.counted before.counted;
      few = omega (arith, before.few, c.take_at-in-Some.ensures.few);
      capacity = omega (arith, before.capacity, c.take_at-in-Some.ensures.capacity);
      walks = λ q. walk_turned k _ h h' turns root q ∙ before.walks q;
      path = (
        path.0 ++ x ∷ [],
        append_assoc path.0 (x ∷ []) rest ∙ ap (λ l. path.0 ++ l) (sym c.in-Some-next.ensures.steps) ∙ path.1,
        walk-append h' root path.0 (x ∷ []) ∙ ap (λ o. down h' o x) (walk_turned k _ h h' turns root path.0 ∙ at) ∙ sym c.child_of-next.ensures,
        (λ q. step_along own below h0 h h' root before.sound path.0 k at path.3 below turns q
            ∙ ap (λ f. option_and_then f (lookup h0 root q)) (sym (next_before own below q path.0 x))),
        ap (λ s. taken_along (g.T.Take.taken true) (g.T.Take.taken false) s (lookup h0 root) (path.0 ++ x ∷ []) rest)
            (c.take_at-in-Some.ensures.taken ∙ ap (taken (g.T.Take.taken false) c.loop-next.how) (still own below h0 h h' root before.sound path.0 k at path.3))
            ∙ ap (taken_along (g.T.Take.taken true) (g.T.Take.taken false) c.loop-next.how (lookup h0 root) path.0) (sym c.in-Some-next.ensures.steps) ∙ path.4,
      );
      bares = λ j bare. same_or j k _ (λ e. inr (ap Some (sym e)))
          (λ ne. elim (before.bares j (bare_turned k _ h h' turns j ne bare)) as (λ _. IsBare h0 j ⊎ (Some k ≡ Some j)) [
            | (inl old) ↦ inl old
            | (inr is) ↦ absurd (let way = before.link j k is c.in-Some.is in let none = (bare_turned k _ h h' turns j ne bare).leaf way.0 in let some = way.1 in cc)
          ]);
      link = λ a b is next. (x, ap (λ i. child h' i x) (same_some a k (sym is)) ∙ sym c.child_of-next.ensures ∙ next);
      part = refl;
    }

pub returns-in_default-next-clause-sound : goal.returns-in_default-next-clause-sound
returns-in_default-next-clause-sound g c =
    sound_turned c.in-Some.at _ (get c.loop-next.nodes) (get c.take_at.new.nodes) c.take_at.ensures.turns c.args.root c.loop-next.invariant.sound

pub returns-in_default-next-clause-counted : goal.returns-in_default-next-clause-counted
returns-in_default-next-clause-counted g c =
    counted_turned g.S.Tally.counts c.in-Some.at _ (get c.loop-next.nodes) (get c.take_at.new.nodes) c.take_at.ensures.turns c.args.root c.loop-next.invariant.sound (g.T.Take.left true) refl
    (g.S.Tally.sum c.loop-next.tally) (g.S.Tally.sum c.take_at.new.tally) c.take_at.ensures.counted c.loop-next.invariant.counted

-- if the walk does not stop early, it ends at the node of the whole name
whole : (g : given.Over) (c : goal.After-take_at g) → c.loop-next.invariant.path.0 ≡ components c.args.name
whole g c =
    let path = c.loop-next.invariant.path in
    sym (append-nil path.0) ∙ ap (λ l. path.0 ++ l) (sym c.in_default-next.ensures.steps.0) ∙ path.1

pub returns-in_default-next-clause-changed : goal.returns-in_default-next-clause-changed
returns-in_default-next-clause-changed g c = λ q.
    let own = g.T.Take.left true in
    let below = g.T.Take.left false in
    let h0 = get c.args.nodes.now in
    let h = get c.loop-next.nodes in
    let root = c.args.root in
    let path = c.loop-next.invariant.path in
    step_along own below h0 h (get c.take_at.new.nodes) root c.loop-next.invariant.sound path.0 c.in-Some.at (path.2 ∙ c.in-Some.is) path.3 own c.take_at.ensures.turns q
    ∙ ap (λ f. option_and_then f (lookup h0 root q)) (sym (last_own own below q path.0))
    ∙ ap (λ n. option_and_then (changed_along own below q n) (lookup h0 root q)) (whole g c)

pub returns-in_default-next-clause-taken : goal.returns-in_default-next-clause-taken
returns-in_default-next-clause-taken g c =
    let h0 = get c.args.nodes.now in
    let h = get c.loop-next.nodes in
    let root = c.args.root in
    let path = c.loop-next.invariant.path in
    c.take_at.ensures.taken
    ∙ ap (taken (g.T.Take.taken true) c.loop-next.how)
    (still (g.T.Take.left true) (g.T.Take.left false) h0 h (get c.take_at.new.nodes) root c.loop-next.invariant.sound path.0 c.in-Some.at (path.2 ∙ c.in-Some.is) path.3)
    ∙ ap (taken_along (g.T.Take.taken true) (g.T.Take.taken false) c.loop-next.how (lookup h0 root) path.0) (sym c.in_default-next.ensures.steps.0) ∙ path.4

pub returns-in_default-next-clause-walks : goal.returns-in_default-next-clause-walks
returns-in_default-next-clause-walks g c = λ q.
    walk_turned c.in-Some.at _ (get c.loop-next.nodes) (get c.take_at.new.nodes) c.take_at.ensures.turns c.args.root q ∙ c.loop-next.invariant.walks q

pub returns-in_default-next-clause-tidy : goal.returns-in_default-next-clause-tidy
returns-in_default-next-clause-tidy g c = λ j bare.
    let h = get c.loop-next.nodes in
    let h' = get c.take_at.new.nodes in
    let k = c.in-Some.at in
    let turns = c.take_at.ensures.turns in
    same_or j k _ (λ e. inr (ap Some (sym e)))
    (λ ne. elim (c.loop-next.invariant.bares j (bare_turned k _ h h' turns j ne bare)) as (λ _. IsBare (get c.args.nodes.now) j ⊎ (Some k ≡ Some j)) [
      | (inl old) ↦ inl old
      | (inr is) ↦ absurd (let way = c.loop-next.invariant.link j k is c.in-Some.is in let none = (bare_turned k _ h h' turns j ne bare).leaf way.0 in let some = way.1 in cc)
    ])

pub returns-in_default-next-clause-whole : goal.returns-in_default-next-clause-whole
returns-in_default-next-clause-whole g c = λ _.
    let h = get c.loop-next.nodes in
    let h' = get c.take_at.new.nodes in
    ap (walk h' c.args.root) (sym (whole g c)) ∙ walk_turned c.in-Some.at _ h h' c.take_at.ensures.turns c.args.root c.loop-next.invariant.path.0
    ∙ c.loop-next.invariant.path.2 ∙ c.in-Some.is

pub returns-in_default-next-clause-few : goal.returns-in_default-next-clause-few
returns-in_default-next-clause-few g c = omega (arith, c.loop-next.invariant.few, c.take_at.ensures.few)

pub returns-in_default-next-clause-capacity : goal.returns-in_default-next-clause-capacity
returns-in_default-next-clause-capacity g c = omega (arith, c.loop-next.invariant.capacity, c.take_at.ensures.capacity)

-- if the walk stops early, the prefix that the walk has reached leads to no node
nowhere : (g : given.Over) (c : goal.In_default g) → walk (get c.args.nodes.now) c.args.root c.loop-next.invariant.path.0 ≡ None
nowhere g c = sym (c.loop-next.invariant.walks c.loop-next.invariant.path.0) ∙ c.loop-next.invariant.path.2 ∙ c.in_default.is

pub returns-clause-changed : goal.returns-clause-changed
returns-clause-changed g c = λ q.
    let own = g.T.Take.left true in
    let below = g.T.Take.left false in
    let h0 = get c.args.nodes.now in
    let root = c.args.root in
    let path = c.loop-next.invariant.path in
    path.3 q ∙ sym (cut_short own below h0 root path.0 (components_left c.loop-next.rest) (nowhere g c) q)
    ∙ ap (λ n. option_and_then (changed_along own below q n) (lookup h0 root q)) path.1

pub returns-clause-taken : goal.returns-clause-taken
returns-clause-taken g c =
    let h0 = get c.args.nodes.now in
    let root = c.args.root in
    let path = c.loop-next.invariant.path in
    sym (nothing_taken (g.T.Take.taken true) (g.T.Take.taken false) c.loop-next.how (lookup h0 root) path.0 (components_left c.loop-next.rest) (nothing_below h0 root path.0 (nowhere g c)))
    ∙ path.4

not_whole : (o : Option End) (P : End → Type 0) → IfSome o (λ end. end.is_whole ≡ false) → IfSome o (λ end. IsTrue end.is_whole → P end)
not_whole None P part = tt
not_whole (Some end) P part = λ is. absurd (let no = part in cc)

short : (o : Option End) (P : Type 0) → P → MatchOption o P (λ end. end.is_whole ≡ false → P)
short None P p = p
short (Some end) P p = λ _. p

pub returns-clause-whole : goal.returns-clause-whole
returns-clause-whole g c = not_whole c.loop-next.end _ c.loop-next.invariant.part

pub returns-clause-short : goal.returns-clause-short
returns-clause-short g c =
    let h = get c.loop-next.nodes in
    let root = c.args.root in
    let path = c.loop-next.invariant.path in
    let rest = components_left c.loop-next.rest in
    short c.loop-next.end _ (ap (walk h root) (sym path.1) ∙ walk-append h root path.0 rest ∙ ap (λ o. walk h o rest) (path.2 ∙ c.in_default.is) ∙ walk_none h rest)
