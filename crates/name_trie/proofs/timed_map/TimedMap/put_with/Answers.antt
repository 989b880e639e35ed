use Rattle.std.proofs.Common.{◌≡◌, ◌+◌, ◌≤◌, inl, inr, ℕ, List, Bool, true, false, cond, refl, ap, sym, subst, ◌∙◌}
use Rattle.std.specs.Prelude.{Option, None, Some, Result, Ok, Err, OnErr, IsSome, length}
use Rattle.std.specs.Option.{option_and_then, option_map}
use Rattle.std.specs.FinMap as map
use Rattle.slab.specs.Slab.{get}
use Rattle.ndn_tlv.specs.Element.{Field}
use Rattle.ndn_names.specs.View.{components}
use Rattle.ndn_tlv.specs.declared.memory.Memory.{Memory}
use Rattle.name_trie.specs.Flat.{total}
use Rattle.name_trie.specs.Trie.{Heap, value, lookup, table_of}
use Rattle.name_trie.specs.Changes.{SameLookups, IsTidy}
use Rattle.name_trie.specs.Timed.{IsTimed, HasTimerRoom}
use Rattle.name_trie.specs.ByName.{ByName, with_value}
use Rattle.name_trie.proofs.Walks.{get-table, same_table}
use Rattle.name_trie.proofs.Changed.{held_still, live, same_or, there_by_up}
use Rattle.name_trie.proofs.Closed.{walk_turned, sound_turned, lookup_turned, bare_turned, with_value_table}
use Rattle.name_trie.proofs.Rings.{same_timers}
use Rattle.name_trie.proofs.Totals.{counted_same, counted_at, has_counts, inserted}
use Rattle.name_trie.proofs.timed_map.TimedMap.put_with.Goals as goal

-- if the lookup of each name returns the same in `h1` as in `h`, the lookup in `h1` of a name of at
-- most 64 components returns the value of the name in the table of `h`
seen : {V : Type 0} (h h1 : Heap V) (root root1 : Option ℕ) (table : ByName V) (name : List Field) → length name ≤ 64 → SameLookups h root h1 root1 → table_of h root ≡ table
    → lookup h1 root1 name ≡ map.get table name
seen h h1 root root1 table name le same is = same name ∙ sym (get-table h root name le) ∙ ap (λ t. map.get t name) is

err_then : {A E P : Type 0} (r : Result A E) → P → OnErr r P
err_then (Ok x) p = tt
err_then (Err x) p = p

ready_of : (ready : Bool) (held : Option (List Field × ℕ)) (name : List Field) → cond ready (option_map (λ p. p.0) held) None ≡ Some name → (ready ≡ true) × (k : ℕ) × (held ≡ Some (name, k))
ready_of false held name is = absurd cc
ready_of true None name is = absurd cc
ready_of true (Some p) name is = (refl, p.1, (let same : p.0 ≡ name = cc in ap (λ n. Some (n, p.1)) same))

pub returns-in_err-k-clause-err : goal.returns-in_err-k-clause-err
returns-in_err-k-clause-err g c =
    err_then c.from_residual.result (same_table (get c.release_other.new.nodes) (get c.place_for.new.nodes) c.release_other.new.root c.place_for.new.root c.place_for.ensures.same
    ∙ same_table (get c.self.inside.nodes) (get c.release_other.new.nodes) c.self.inside.root c.release_other.new.root c.release_other.ensures.same ∙ ap (λ t. t.table) c.self.view_is)

pub returns-in_err-k-clause-known : goal.returns-in_err-k-clause-known
returns-in_err-k-clause-known g c = λ some.
    let name = components c.args.name in
    let was = seen (get c.self.inside.nodes) (get c.release_other.new.nodes) c.self.inside.root c.release_other.new.root c.args.self.now.table name c.args.name.spelled.1.0 c.release_other.ensures.same
    (ap (λ t. t.table) c.self.view_is) in
    let known = c.in_err-k.ensures.known (subst (λ (o : Option g.row.V.Denot). IsSome o) (sym was) some) in
    absurd cc

pub returns-in_err-k-clause-promised : goal.returns-in_err-k-clause-promised
returns-in_err-k-clause-promised g c = λ is.
    let ready = ready_of c.self.inside.is_ready c.self.inside.held (components c.args.name) (ap (λ t. t.prepared) c.self.view_is ∙ is) in
    let room = subst (λ b. HasTimerRoom b c.self.inside.timers) ready.0 c.self.invariant.4 in
    let promised = c.in_err-k.ensures.promised (c.release_other.ensures.kept ready.1 (c.take-held.ensures.value ∙ ready.2)) room in
    absurd cc

pub replace_at-requires-clause-node : goal.replace_at-requires-clause-node
replace_at-requires-clause-node g c =
    let h = get c.place_for.new.nodes in
    let up_k = live h c.place_for.new.root c.place_for.ensures.sound (components c.args.name) c.in_ok-k.k c.in_ok-k.ensures.ok in
    there_by_up h c.in_ok-k.k up_k.0 up_k.1

pub replace_at-requires-clause-has : goal.replace_at-requires-clause-has
replace_at-requires-clause-has g c =
    let counts = g.S.Tally.counts in
    let h1 = get c.release_other.new.nodes in
    let sum = g.S.Tally.sum c.self.inside.tally in
    has_counts counts (get c.place_for.new.nodes) c.place_for.new.root c.place_for.ensures.sound sum
    (counted_same counts h1 (get c.place_for.new.nodes) c.release_other.new.root c.place_for.new.root sum c.place_for.ensures.same
    (counted_same counts (get c.self.inside.nodes) h1 c.self.inside.root c.release_other.new.root sum c.release_other.ensures.same c.self.invariant.5)) c.in_ok-k.k

pub replace_at-requires-clause-fits : goal.replace_at-requires-clause-fits
replace_at-requires-clause-fits g c = λ sums re.
    let counts = g.S.Tally.counts in
    let h = get c.place_for.new.nodes in
    let name = components c.args.name in
    let becomes = g.B.Becomes.becomes c.args.how in
    let table = c.args.self.now.table in
    let was : value h c.in_ok-k.k ≡ map.get table name =
    ap (option_and_then (value h)) (sym c.in_ok-k.ensures.ok) ∙ c.place_for.ensures.same name
    ∙ seen (get c.self.inside.nodes) (get c.release_other.new.nodes) c.self.inside.root c.release_other.new.root table name c.args.name.spelled.1.0 c.release_other.ensures.same (ap (λ t. t.table) c.self.view_is) in
    g.met.S.Tally.fewer _ _
    (inserted counts table name (becomes (map.get table name)) (value h c.in_ok-k.k) was (g.S.Tally.sum c.self.inside.tally) sums
    (λ i. c.self.invariant.5 i ∙ ap (λ t. total (counts i) (map.entries t.table)) c.self.view_is)
    (λ i. re i ∙ ap (λ o. g.S.Tally.sum c.self.inside.tally i + counts i (becomes o)) was))
    c.requires

pub invariant_of-self : goal.invariant_of-self
invariant_of-self g c =
    let h = get c.self.inside.nodes in
    let h1 = get c.release_other.new.nodes in
    let h2 = get c.place_for.new.nodes in
    let timer = g.V.Timed.timer in
    let size = g.S.Tally.counts in
    let tidy = subst (λ (o : Option (List Field × ℕ)). IsTidy h (option_map (λ p. p.1) o)) (sym c.take-held.ensures.value) c.self.invariant.2 in (
      c.place_for.ensures.sound,
      c.place_for.ensures.held,
      (λ j bare. elim (c.in_err-k.ensures.tidy (c.release_other.ensures.tidy tidy) j bare) as (λ _. option_map (λ p. p.1) c.release_other.result ≡ Some j) [
        | (inl is) ↦ absurd cc
        | (inr at) ↦ at
      ]),
      subst (IsTimed timer h2) (sym c.place_for.ensures.timers)
          (same_timers timer h h2 c.self.inside.timers.timers (λ j. c.place_for.ensures.values j ∙ c.release_other.ensures.values j) c.self.invariant.3),
      tt,
      counted_same size h1 h2 c.release_other.new.root c.place_for.new.root (g.S.Tally.sum c.self.inside.tally) c.place_for.ensures.same
          (counted_same size h h1 c.self.inside.root c.release_other.new.root (g.S.Tally.sum c.self.inside.tally) c.release_other.ensures.same c.self.invariant.5),
    )

pub invariant_of-self-2 : goal.invariant_of-self-2
invariant_of-self-2 g c =
    let h = get c.self.inside.nodes in
    let h1 = get c.release_other.new.nodes in
    let h2 = get c.place_for.new.nodes in
    let h3 = get c.replace_at.new.nodes in
    let root = c.place_for.new.root in
    let k = c.in_ok-k.k in
    let turns = c.replace_at.ensures.turns in
    let held = c.release_other.result in
    let size = g.S.Tally.counts in
    let tidy = subst (λ (o : Option (List Field × ℕ)). IsTidy h (option_map (λ p. p.1) o)) (sym c.take-held.ensures.value) c.self.invariant.2 in (
      sound_turned k _ h2 h3 turns root c.place_for.ensures.sound,
      held_still h2 h3 root root (option_map (λ p. p.1) held) held refl (λ q _ at. walk_turned k _ h2 h3 turns root q ∙ at) c.place_for.ensures.held,
      (λ j bare. same_or j k (option_map (λ p. p.1) held ≡ Some j)
          (λ e. absurd (let none = ap (value h3) (sym e) ∙ bare.bare in let some = turns.here in cc))
          (λ ne. elim (c.in_ok-k.ensures.tidy (c.release_other.ensures.tidy tidy) j (bare_turned k _ h2 h3 turns j ne bare)) as (λ _. option_map (λ p. p.1) held ≡ Some j) [
            | (inl is) ↦ absurd (ne (same_ok j k (sym is)))
            | (inr at) ↦ at
          ])),
      c.replace_at.ensures.timed,
      tt,
      counted_at size k _ h2 h3 turns root c.place_for.ensures.sound (components c.args.name) c.args.name.spelled.1.0 c.in_ok-k.ensures.ok (g.S.Tally.sum c.self.inside.tally) (g.S.Tally.sum c.replace_at.new.tally)
          c.replace_at.ensures.counted
          (counted_same size h1 h2 c.release_other.new.root root (g.S.Tally.sum c.self.inside.tally) c.place_for.ensures.same
          (counted_same size h h1 c.self.inside.root c.release_other.new.root (g.S.Tally.sum c.self.inside.tally) c.release_other.ensures.same c.self.invariant.5)),
    )
  where
    same_ok : (i j : ℕ) → ◌≡◌ {A = Result ℕ Memory} (Ok i) (Ok j) → i ≡ j
    same_ok i j e = cc

pub returns-clause-ok : goal.returns-clause-ok
returns-clause-ok g c =
    let h0 = get c.self.inside.nodes in
    let h = get c.place_for.new.nodes in
    let h' = get c.replace_at.new.nodes in
    let root = c.place_for.new.root in
    let k = c.in_ok-k.k in
    let name = components c.args.name in
    let small = c.args.name.spelled.1.0 in
    let becomes = g.B.Becomes.becomes c.args.how in
    let was : value h k ≡ map.get c.args.self.now.table name =
    ap (option_and_then (value h)) (sym c.in_ok-k.ensures.ok) ∙ c.place_for.ensures.same name
    ∙ seen h0 (get c.release_other.new.nodes) c.self.inside.root c.release_other.new.root c.args.self.now.table name small c.release_other.ensures.same (ap (λ t. t.table) c.self.view_is) in
    with_value_table h h' root root name (Some (becomes (value h k))) small (lookup_turned k _ h h' c.replace_at.ensures.turns root c.place_for.ensures.sound name c.in_ok-k.ensures.ok)
    ∙ ap (λ t. with_value t name (Some (becomes (value h k))))
    (same_table (get c.release_other.new.nodes) h c.release_other.new.root root c.place_for.ensures.same
    ∙ same_table h0 (get c.release_other.new.nodes) c.self.inside.root c.release_other.new.root c.release_other.ensures.same ∙ ap (λ t. t.table) c.self.view_is)
    ∙ ap (λ (o : Option g.row.V.Denot). map.insert c.args.self.now.table name (becomes o)) was
