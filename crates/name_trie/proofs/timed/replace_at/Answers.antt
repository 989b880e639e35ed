use Rattle.std.proofs.Common.{◌≡◌, ◌<◌, refl, ap, sym, subst, ◌∙◌, arith}
use Rattle.std.specs.Prelude.{Option, Some, None, IsSome}
use Rattle.std.specs.FinSet as set
use Rattle.slab.specs.Slab.{get}
use Rattle.name_trie.specs.Flat.{size_of}
use Rattle.name_trie.specs.Trie.{value}
use Rattle.name_trie.specs.Changes.{Turns}
use Rattle.name_trie.proofs.Changed.{there_by_up, set_turns}
use Rattle.name_trie.proofs.Closed.{turned_twice, up_there}
use Rattle.name_trie.proofs.timed.replace_at.Goals as goal

pub put_timed-requires-clause-node : goal.put_timed-requires-clause-node
put_timed-requires-clause-node g c =
    let h = get c.args.nodes.now in
    let up_k = up_there h c.args.k c.requires.node in
    there_by_up (get c.take_timed-old.new.nodes) c.args.k up_k.0 (c.take_timed-old.ensures.turns.ups c.args.k ∙ up_k.1)

pub put_timed-requires-clause-empty : goal.put_timed-requires-clause-empty
put_timed-requires-clause-empty g c = c.take_timed-old.ensures.turns.here

-- memory for the timer is available: the memory was reserved if the node had no value, and removing
-- the old timer freed the memory if the node had a value
pub put_timed-requires-clause-room : goal.put_timed-requires-clause-room
put_timed-requires-clause-room g c =
    elim c.take_timed-old.result as (λ o. c.take_timed-old.result ≡ o → set.len c.take_timed-old.new.timers.timers < c.take_timed-old.new.timers.capacity) [
      | None ↦ λ none. let room = c.requires.room (sym c.take_timed-old.ensures.value ∙ none) in omega (arith, room, c.take_timed-old.ensures.few, c.take_timed-old.ensures.capacity)
      | (Some v) ↦ λ some. c.take_timed-old.ensures.room (subst (λ (o : Option g.row.V.Denot). IsSome o) (sym some) refl)
    ] refl

pub returns-clause-turns : goal.returns-clause-turns
returns-clause-turns g c =
    let h = get c.args.nodes.now in
    let h1 = get c.take_timed-old.new.nodes in
    let h2 = get c.put_timed.new.nodes in
    let k = c.args.k in
    let becomes = g.B.Becomes.becomes c.args.how in
    let made : c.apply.result ≡ becomes (value h k) = c.apply.ensures ∙ ap becomes c.take_timed-old.ensures.value in
    subst (λ (v : g.row.V.Denot). Turns k (Some v) h h2) made
    (turned_twice k None (Some c.apply.result) h h1 h2 c.take_timed-old.ensures.turns (set_turns k (Some c.apply.result) h1 h2 c.put_timed.ensures.sets))

pub lower_at-requires : goal.lower_at-requires
lower_at-requires g c = c.requires.has

pub raise_at-requires : goal.raise_at-requires
raise_at-requires g c =
    let counts = g.S.Tally.counts in
    let h = get c.args.nodes.now in
    let k = c.args.k in
    let becomes = g.B.Becomes.becomes c.args.how in
    c.requires.fits _
    (λ i.
    let made : c.apply.result ≡ becomes (value h k) = c.apply.ensures ∙ ap becomes c.take_timed-old.ensures.value in
    let now : size_of (counts i) (value (get c.put_timed.new.nodes) k) ≡ counts i (becomes (value h k)) =
    ap (size_of (counts i)) (set_turns k (Some c.apply.result) (get c.take_timed-old.new.nodes) (get c.put_timed.new.nodes) c.put_timed.ensures.sets).here ∙ ap (counts i) made in
    let lowered = c.lower_at.ensures i in
    omega (arith, now, lowered))

pub returns-clause-counted : goal.returns-clause-counted
returns-clause-counted g c = λ i.
    let lowered = c.lower_at.ensures i in
    let raised = c.raise_at.ensures i in
    omega (arith, lowered, raised)
