use Rattle.std.proofs.Common.{◌≡◌, ap, sym, subst, ◌∙◌}
use Rattle.std.specs.Option.{option_map}
use Rattle.slab.specs.Slab.{get}
use Rattle.name_trie.specs.Timed.{timer_at, IsTimed, started, stopped}
use Rattle.name_trie.proofs.Rings.{retimed, timer_there, taken, has_timer}
use Rattle.name_trie.proofs.timed.take_timed.Goals as goal

pub returns-clause-timed : goal.returns-clause-timed
returns-clause-timed g c =
    let timer = g.V.Timed.timer in
    let h = get c.args.nodes.now in
    let h' = get c.take_value.new.nodes in
    let k = c.args.k in
    let left = taken k h h' c.take_value.result c.take_value.ensures.sets c.take_value.ensures.same c.take_value.ensures.old in
    let now : c.stop.new.timers.timers ≡ started k (timer_at timer h' k) (stopped k (timer_at timer h k) c.args.timers.now.timers) =
    c.stop.ensures.timers ∙ ap (λ o. stopped k o c.args.timers.now.timers) c.timer_at-old.ensures
    ∙ ap (λ o. started k (option_map timer o) (stopped k (timer_at timer h k) c.args.timers.now.timers)) (sym left.1) in
    subst (IsTimed timer h') (sym now) (retimed timer k h h' left.0 c.args.timers.now.timers c.requires)

pub returns-clause-room : goal.returns-clause-room
returns-clause-room g c = λ some.
    let timer = g.V.Timed.timer in
    let had = has_timer timer c.take_value.result some in
    let at = ap (option_map timer) (sym c.take_value.ensures.old) ∙ had.1 in
    c.stop.ensures.room had.0 (c.timer_at-old.ensures ∙ at) (timer_there timer (get c.args.nodes.now) c.args.timers.now.timers c.requires c.args.k had.0 at)
