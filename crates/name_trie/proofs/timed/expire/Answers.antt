use Rattle.std.proofs.Common.{◌≡◌, ◌<◌, ℕ, ap, sym, subst, ◌∙◌, refl, arith, inl, inr}
use Rattle.std.specs.Prelude.{Some}
use Rattle.std.specs.Option.{option_and_then, option_map}
use Rattle.slab.specs.Slab.{get}
use Rattle.name_trie.specs.Trie.{value}
use Rattle.name_trie.specs.Timed.{timer_at, started, stopped}
use Rattle.name_trie.proofs.Closed.{sound_turned, walk_turned, bare_turned}
use Rattle.name_trie.proofs.Rings.{due, fewer_due, rings_is, later_than, changed_early, none_due, same_timers}
use Rattle.name_trie.proofs.Totals.{counted_same, counted_turned, has_counts}
use Rattle.name_trie.proofs.timed.expire.Goals as goal

pub prune-requires : goal.prune-requires
prune-requires g c =
    sound_turned c.in-Some.timer.key _ (get c.loop-timer.nodes) (get c.change_timed.new.nodes) c.change_timed.ensures.turns c.loop-timer.root c.loop-timer.invariant.sound

pub loop-timer-smaller : goal.loop-timer-smaller
loop-timer-smaller g c =
    let timer = g.V.Timed.timer in
    let h = get c.loop-timer.nodes in
    let h' = get c.change_timed.new.nodes in
    let t = c.in-Some.timer in
    let is : timer_at timer h t.key ≡ Some t.deadline = rings_is (timer_at timer h t.key) t.deadline (sym (c.loop-timer.invariant.timed t) ∙ c.in-Some.ensures.0) in
    let later : (e : ℕ) → timer_at timer h' t.key ≡ Some e → c.args.now < e = λ e there. later_than timer (g.C.Change.change c.args.how.now) c.args.now c.requires.idle c.requires.later (value h t.key) e (ap (λ o. option_map timer o) (sym c.change_timed.ensures.turns.here) ∙ there) in
    let fewer = fewer_due c.args.now t.key t.deadline (timer_at timer h' t.key) c.loop-timer.timers.timers c.in-Some.ensures.0 c.in-Some.ensures.1 later in
    subst (λ s. due c.args.now s < due c.args.now c.loop-timer.timers.timers)
    (sym (c.change_timed.ensures.timers ∙ ap (λ o. started t.key (timer_at timer h' t.key) (stopped t.key o c.loop-timer.timers.timers)) is)) fewer

pub loop-timer-preserved : goal.loop-timer-preserved
loop-timer-preserved g c =
    let change = g.C.Change.change c.args.how.now in
    let h = get c.loop-timer.nodes in
    let h' = get c.change_timed.new.nodes in
    let k = c.in-Some.timer.key in
    let root = c.loop-timer.root in
    let before = c.loop-timer.invariant in
    let turns = c.change_timed.ensures.turns in
    record {
      sound = c.prune.ensures.sound;
      timed = same_timers g.V.Timed.timer h' (get c.prune.new.nodes) c.change_timed.new.timers.timers c.prune.ensures.values c.change_timed.ensures.timed;
      counted = counted_same g.S.Tally.counts h' (get c.prune.new.nodes) root c.prune.new.root (g.S.Tally.sum c.change_timed.new.tally) c.prune.ensures.same
          (counted_turned g.S.Tally.counts k _ h h' turns root before.sound change refl (g.S.Tally.sum c.loop-timer.tally) (g.S.Tally.sum c.change_timed.new.tally) c.change_timed.ensures.counted before.counted);
      few = omega (arith, before.few, c.change_timed.ensures.few);
      capacity = omega (arith, before.capacity, c.change_timed.ensures.capacity);
      tidy = λ j bare. elim (c.prune.ensures.tidy j bare) as (λ _. c.args.kept ≡ Some j) [
        | (inl held) ↦ held
        | (inr was) ↦ before.tidy j (bare_turned k _ h h' turns j was.0 was.1)
      ];
      same = λ q. ap (option_and_then change) (c.prune.ensures.same q)
          ∙ changed_early g.V.Timed.timer change c.args.now c.requires.idle c.requires.later k h h' turns root q ∙ before.same q;
      kept = λ q some e. c.prune.ensures.kept q some (walk_turned k _ h h' turns root q ∙ before.kept q some e);
    }

pub returns-clause-changed : goal.returns-clause-changed
returns-clause-changed g c = λ q.
    let none = rw c.in_default.is at c.first_due.ensures in
    sym (none_due g.V.Timed.timer (g.C.Change.change c.args.how.now) c.args.now c.requires.idle c.requires.later (get c.loop-timer.nodes) c.loop-timer.timers.timers c.loop-timer.invariant.timed none c.loop-timer.root q)
    ∙ c.loop-timer.invariant.same q

pub change_timed-requires-clause-has : goal.change_timed-requires-clause-has
change_timed-requires-clause-has g c =
    has_counts g.S.Tally.counts (get c.loop-timer.nodes) c.loop-timer.root c.loop-timer.invariant.sound (g.S.Tally.sum c.loop-timer.tally) c.loop-timer.invariant.counted c.in-Some.timer.key
