use Rattle.std.proofs.Common.{◌≡◌, ◌≢◌, ◌≤◌, Bool, true, false, cond, refl, ap, sym, ◌∙◌, arith}
use Rattle.std.specs.Prelude.{◌&&◌, is_some, is_none}
use Rattle.std.specs.Option.{option_and_then}
use Rattle.std.specs.FinMap.{len}
use mir.Val.{bool_byte}
use Rattle.slab.specs.Slab.{get}
use Rattle.name_trie.specs.Trie.{value, table_of}
use Rattle.name_trie.proofs.Changed.{same_or}
use Rattle.name_trie.proofs.Closed.{walk_turned, sound_turned, count_turned}
use Rattle.name_trie.proofs.Walks.{same_table}
use Rattle.name_trie.proofs.change.change_all.Goals as goal

byte_is : (b : Bool) → bool_byte b ≡ cond b 1 0
byte_is true = refl
byte_is false = refl

byte_small : (b : Bool) → bool_byte b ≤ 1
byte_small true = omega arith
byte_small false = omega arith

pub loop-k-preserved : goal.loop-k-preserved
loop-k-preserved g c =
    let h0 = get c.args.nodes.now in
    let h = get c.loop-k.nodes in
    let h' = get c.change_at.new.nodes in
    let k = c.loop-k.k in
    let root = c.args.root.now in
    let before = c.loop-k.invariant in
    let turns = c.change_at.ensures.turns in
    let now = option_and_then (g.C.Change.change c.args.how.now) (value h k) in
    let byte : c.from-gone.result ≡ cond (is_some (value h k) && is_none now) 1 0 = c.from-gone.ensures ∙ byte_is c.change_at.result ∙ ap (λ b. cond b 1 0) c.change_at.ensures.went in
    let count = count_turned k now h h' turns root before.sound (g.C.Change.change c.args.how.now) refl in
    let small : c.from-gone.result ≤ 1 = omega (arith, c.from-gone.ensures, byte_small c.change_at.result) in
    record {
      sound = sound_turned k now h h' turns root before.sound;
      walks = λ q. walk_turned k now h h' turns root q ∙ before.walks q;
      done = λ a lt. same_or a k (value h' a ≡ option_and_then (g.C.Change.change c.args.how.now) (value h0 a))
          (λ is. ap (value h') is ∙ turns.here ∙ ap (option_and_then (g.C.Change.change c.args.how.now)) (before.todo k (omega arith) ∙ ap (value h0) (sym is)))
          (λ ne. turns.others a ne ∙ before.done a (omega (arith, lt, ne)));
      todo = λ a le.
          let ne : a ≢ k = λ is. omega (arith, is, le) in
          turns.others a ne ∙ before.todo a (omega (arith, le));
      count = omega (arith, byte, count, before.count);
      few = omega (arith, small, before.few);
    }

pub returns-clause-count : goal.returns-clause-count
returns-clause-count g c =
    let same : len (table_of (get c.prune_all.new.nodes) c.prune_all.new.root) ≡ len (table_of (get c.loop-k.nodes) c.args.root.now) =
    ap len (same_table (get c.loop-k.nodes) (get c.prune_all.new.nodes) c.args.root.now c.prune_all.new.root c.prune_all.ensures.same) in
    omega (arith, same, c.loop-k.invariant.count)
