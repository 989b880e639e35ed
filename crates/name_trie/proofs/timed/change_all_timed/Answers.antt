use Rattle.std.proofs.Common.{◌≡◌, ◌≢◌, ap, sym, ◌∙◌, refl, arith}
use Rattle.std.specs.Option.{option_and_then}
use Rattle.slab.specs.Slab.{get}
use Rattle.name_trie.specs.Trie.{value}
use Rattle.name_trie.proofs.Changed.{same_or}
use Rattle.name_trie.proofs.Closed.{walk_turned, sound_turned}
use Rattle.name_trie.proofs.Rings.{same_timers}
use Rattle.name_trie.proofs.Totals.{counted_same, counted_turned, has_counts}
use Rattle.name_trie.proofs.timed.change_all_timed.Goals as goal

pub loop-k-preserved : goal.loop-k-preserved
loop-k-preserved g c =
    let h0 = get c.args.nodes.now in
    let h = get c.loop-k.nodes in
    let h' = get c.change_timed.new.nodes in
    let k = c.loop-k.k in
    let root = c.args.root.now in
    let before = c.loop-k.invariant in
    let turns = c.change_timed.ensures.turns in
    let change = option_and_then (g.C.Change.change c.args.how.now) in
    record {
      sound = sound_turned k _ h h' turns root before.sound;
      timed = c.change_timed.ensures.timed;
      counted = counted_turned g.S.Tally.counts k _ h h' turns root before.sound (g.C.Change.change c.args.how.now) refl (g.S.Tally.sum c.loop-k.tally) (g.S.Tally.sum c.change_timed.new.tally) c.change_timed.ensures.counted before.counted;
      few = omega (arith, before.few, c.change_timed.ensures.few);
      capacity = omega (arith, before.capacity, c.change_timed.ensures.capacity);
      walks = λ q. walk_turned k _ h h' turns root q ∙ before.walks q;
      done = λ a lt. same_or a k (value h' a ≡ change (value h0 a))
          (λ is. ap (value h') is ∙ turns.here ∙ ap change (before.todo k (omega arith) ∙ ap (value h0) (sym is)))
          (λ ne. turns.others a ne ∙ before.done a (omega (arith, lt, ne)));
      todo = λ a le.
          let ne : a ≢ k = λ is. omega (arith, is, le) in
          turns.others a ne ∙ before.todo a (omega (arith, le));
    }

pub returns-clause-timed : goal.returns-clause-timed
returns-clause-timed g c =
    same_timers g.V.Timed.timer (get c.loop-k.nodes) (get c.prune_all.new.nodes) c.loop-k.timers.timers c.prune_all.ensures.values c.loop-k.invariant.timed

pub returns-clause-counted : goal.returns-clause-counted
returns-clause-counted g c =
    counted_same g.S.Tally.counts (get c.loop-k.nodes) (get c.prune_all.new.nodes) c.args.root.now c.prune_all.new.root (g.S.Tally.sum c.loop-k.tally) c.prune_all.ensures.same c.loop-k.invariant.counted

pub change_timed-requires-clause-has : goal.change_timed-requires-clause-has
change_timed-requires-clause-has g c =
    has_counts g.S.Tally.counts (get c.loop-k.nodes) c.args.root.now c.loop-k.invariant.sound (g.S.Tally.sum c.loop-k.tally) c.loop-k.invariant.counted c.loop-k.k
