use Rattle.std.proofs.Common.{◌≡◌, ap, sym, subst, ◌∙◌, refl, arith}
use Rattle.std.specs.Prelude.{IsSome}
use Rattle.std.specs.Option.{option_map, option_and_then}
use Rattle.slab.specs.Slab.{get}
use Rattle.name_trie.specs.Flat.{size_of}
use Rattle.name_trie.specs.Trie.{value}
use Rattle.name_trie.specs.Timed.{timer_at, IsTimed, started, stopped}
use Rattle.name_trie.proofs.Totals.{left_fewer}
use Rattle.name_trie.proofs.Rings.{retimed, timer_there, had_timer}
use Rattle.name_trie.proofs.timed.change_timed.Goals as goal

pub retime-requires-clause-had : goal.retime-requires-clause-had
retime-requires-clause-had g c = λ some.
    let timer = g.V.Timed.timer in
    let h = get c.args.nodes.now in
    let k = c.args.k in
    let now : c.timer_at-new.result ≡ option_map timer (option_and_then (g.C.Change.change c.args.how.now) (value h k)) = c.timer_at-new.ensures ∙ ap (option_map timer) c.change_at.ensures.turns.here in
    let had = had_timer timer (g.C.Change.change c.args.how.now) (value h k) (subst IsSome now some) in
    subst IsSome (sym (c.timer_at-old.ensures ∙ had.1)) refl

pub retime-requires-clause-there : goal.retime-requires-clause-there
retime-requires-clause-there g c = λ d is.
    timer_there g.V.Timed.timer (get c.args.nodes.now) c.args.timers.now.timers c.requires.timed c.args.k d (sym c.timer_at-old.ensures ∙ is)

pub returns-clause-timed : goal.returns-clause-timed
returns-clause-timed g c =
    let timer = g.V.Timed.timer in
    let h = get c.args.nodes.now in
    let h' = get c.change_at.new.nodes in
    let k = c.args.k in
    let set : c.retime.new.timers.timers ≡ started k (timer_at timer h' k) (stopped k (timer_at timer h k) c.args.timers.now.timers) =
    c.retime.ensures.timers ∙ (λ i. started k (c.timer_at-new.ensures i) (stopped k (c.timer_at-old.ensures i) c.args.timers.now.timers)) in
    subst (IsTimed timer h') (sym set) (retimed timer k h h' c.change_at.ensures.turns.others c.args.timers.now.timers c.requires.timed)

pub lower_at-requires : goal.lower_at-requires
lower_at-requires g c = c.requires.has

-- the new sums are at most the old ones
pub raise_at-requires : goal.raise_at-requires
raise_at-requires g c =
    let counts = g.S.Tally.counts in
    let h = get c.args.nodes.now in
    let k = c.args.k in
    g.met.S.Tally.fewer _ _
    (λ i.
    let left = left_fewer counts (g.C.Change.change c.args.how.now) c.requires.fewer (value h k) i in
    let now : size_of (counts i) (value (get c.change_at.new.nodes) k) ≡ size_of (counts i) (option_and_then (g.C.Change.change c.args.how.now) (value h k)) = ap (size_of (counts i)) c.change_at.ensures.turns.here in
    let lowered = c.lower_at.ensures i in
    omega (arith, left, now, lowered))
    c.stands.ensures

pub returns-clause-counted : goal.returns-clause-counted
returns-clause-counted g c = λ i.
    let lowered = c.lower_at.ensures i in
    let raised = c.raise_at.ensures i in
    omega (arith, lowered, raised)
