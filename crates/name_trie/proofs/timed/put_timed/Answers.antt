use Rattle.std.proofs.Common.{◌≡◌, ap, sym, subst, ◌∙◌}
use Rattle.std.specs.Prelude.{Option, Some}
use Rattle.std.specs.Option.{option_map, option_and_then}
use Rattle.slab.specs.Slab.{get}
use Rattle.name_trie.specs.Trie.{value}
use Rattle.name_trie.specs.Timed.{timer_at, IsTimed, started, stopped}
use Rattle.name_trie.proofs.Rings.{retimed, set_others}
use Rattle.name_trie.proofs.timed.put_timed.Goals as goal

pub start-requires : goal.start-requires
start-requires g c = λ _. c.requires.room

pub returns-clause-timed : goal.returns-clause-timed
returns-clause-timed g c =
    let timer = g.V.Timed.timer in
    let h = get c.args.nodes.now in
    let h' = get c.set_value.new.nodes in
    let k = c.args.k in
    let old = c.args.timers.now.timers in
    let here : value h' k ≡ Some c.args.value = ap (option_and_then (λ n. n.value)) c.set_value.ensures.here in
    let now : c.start.new.timers.timers ≡ started k (timer_at timer h' k) (stopped k (timer_at timer h k) old) =
    c.start.ensures.timers ∙ ap (λ d. started k (Some d) old) c.timer.ensures
    ∙ ap (λ o. started k (option_map timer o) old) (sym here)
    ∙ ap (λ (o : Option g.row.V.Denot). started k (timer_at timer h' k) (stopped k (option_map timer o) old)) (sym c.requires.empty) in
    subst (IsTimed timer h') (sym now) (retimed timer k h h' (set_others k h h' (Some c.args.value) c.set_value.ensures) old c.requires.timed)
