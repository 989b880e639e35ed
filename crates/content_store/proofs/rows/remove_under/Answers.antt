use Rattle.std.proofs.Common.{◌≡◌, ◌+◌, ◌-◌, ◌<◌, ℕ, inl, inr, List, length, refl, sym, ap, subst, ◌∙◌, arith}
use Rattle.std.specs.Prelude.{IsSome, nat_eq}
use Rattle.std.specs.Map.{remove_entry}
use Rattle.std.proofs.lemmas.List.{take-append-drop}
use Rattle.std.proofs.lemmas.Option.{same_Some}
use Rattle.lru.specs.LruCache.{LruCache}
use Rattle.slab.specs.Slab.{get}
use Rattle.ndn_names.specs.Name.{IsPrefix}
use Rattle.ndn_names.specs.View.{components}
use Rattle.content_store.specs.declared.rows.Row.{Row}
use Rattle.content_store.specs.Store.{TakesLeast, full_name_of}
use Rattle.content_store.specs.Rows.{IsLower, IsRows, Placed, name_at, shown}
use Rattle.content_store.specs.Uses.{Sound, TakesUnder, cached_in, without_range}
use Rattle.content_store.proofs.Shown.{length-shown}
use Rattle.content_store.proofs.Taken.{nothing_taken}
use Rattle.content_store.proofs.Erased.{TakenSoFar, fewer_next, here, left_next, lower_next, none_left, range_len, rows_next, sound_next, taken_next, there_at}
use Rattle.content_store.proofs.rows.remove_under.Goals as goal
use Rattle.content_store.proofs.rows.remove_under.Goals.{then-end-start-via-then-end-start, then-end-start-via-else-end-start+then-not-is_under}

pub loop-end-init : goal.loop-end-init
loop-end-init c =
    let whole : without_range c.args.start c.args.start c.args.order.now ≡ c.args.order.now = take-append-drop c.args.start c.args.order.now in
    let all = shown (get c.args.entries.now) c.args.order.now in
    record {
      rows = subst (IsRows (get c.args.entries.now)) (sym whole) c.requires.rows;
      lower = subst (λ (l : List ℕ). IsLower (components c.args.name) (shown (get c.args.entries.now) l) c.args.start) (sym whole) c.requires.start;
      left = ap (λ (l : List ℕ). shown (get c.args.entries.now) l) whole ∙ sym (take-append-drop c.args.start all);
      at_most = omega arith;
      cap = refl;
      taken =
          λ next sound.
          let none : 0 ≡ c.args.start - c.args.start = omega arith in
          subst (λ (l : List ℕ). TakenSoFar (components c.args.name) all c.args.used.now (shown (get c.args.entries.now) l) c.args.used.now next (c.args.start - c.args.start)) (sym whole)
          (record {
            sound = sound;
            fewer = omega arith;
            taken = subst (λ (n : ℕ). TakesLeast (components c.args.name) (cached_in all c.args.used.now.entries) (cached_in all c.args.used.now.entries) n) none
                (nothing_taken (components c.args.name) (cached_in all c.args.used.now.entries));
          });
    }

pub index-requires : goal.index-requires
index-requires c =
    let inv = c.loop-end.invariant in
    let lt : c.loop-end.end < length c.args.order.now = omega (arith, c.loop-end-test.true, c.len-end-end.ensures) in
    let from = c.loop-end.auto.end in
    subst (λ (p : ℕ). IsSome (get c.loop-end.entries p)) (sym c.get-place.ensures) (there_at (get c.loop-end.entries) c.args.order.now c.args.start c.loop-end.end inv.rows from lt)

pub returns-then-end-start-clause-taken : goal.returns-then-end-start-clause-taken
returns-then-end-start-clause-taken c =
    λ next sound. let inv = c.loop-end.invariant in
    let so = inv.taken next sound in
    let lt : c.loop-end.end < length c.args.order.now = omega (arith, c.loop-end-test.true, c.len-end-end.ensures) in
    let from = c.loop-end.auto.end in
    record {
      sound = so.sound;
      cap = inv.cap;
      fewer = so.fewer;
      taken = so.taken;
      at_most = inv.at_most;
      ended =
          elim c.then-end-start.branch [
            | then-end-start-via-then-end-start w ↦ inl w.if-end-start.true
            | then-end-start-via-else-end-start+then-not-is_under w ↦
                let never : IsPrefix (components c.args.name) (full_name_of w.index.result.now.entry) → ⊥ = λ p. (let t = w.is_under.ensures.1 p in let f = w.if-not-is_under.true in cc) in
                inr (none_left (components c.args.name) _ c.loop-end.used.entries next c.args.start so.sound inv.lower
                (λ d within p. never (subst (λ (r : Placed). IsPrefix (components c.args.name) (name_at r))
                (here (get c.loop-end.entries) (get c.loop-end.entries) c.args.order.now c.args.start c.loop-end.end c.get-place.result w.index.result.now (components c.args.name)
                inv.rows inv.lower from lt (sym c.get-place.ensures) w.index.ensures (λ q ne. refl) d) p)))
          ];
    }

pub loop-end-preserved : goal.loop-end-preserved
loop-end-preserved c =
    let inv = c.loop-end.invariant in
    let lt : c.loop-end.end < length c.args.order.now = omega (arith, c.loop-end-test.true, c.len-end-end.ensures) in
    let from = c.loop-end.auto.end in
    let most = inv.at_most in
    let h = get c.loop-end.entries in
    let f = get c.remove-row.new.self in
    let place = c.get-place.result in
    let row : Row = c.remove-row.result in
    let one : c.index.result.now ≡ row = same_Some c.index.result.now row (sym c.index.ensures ∙ c.remove-row.ensures.value) in
    let under : IsPrefix (components c.args.name) (full_name_of row.entry) =
    subst (λ (r : Row). IsPrefix (components c.args.name) (full_name_of r.entry)) one (c.is_under.ensures.0 c.if-not-is_under.false) in
    let used : LruCache ℕ ℕ = c.pop.new.self in
    let uses = c.pop.ensures.entries in
    record {
      rows = rows_next h f c.args.order.now c.args.start c.loop-end.end place row (components c.args.name) inv.rows inv.lower from lt (sym c.get-place.ensures) c.remove-row.ensures.value c.remove-row.ensures.updates.others;
      lower = lower_next h f c.args.order.now c.args.start c.loop-end.end place row (components c.args.name) inv.rows inv.lower from lt (sym c.get-place.ensures) c.remove-row.ensures.value c.remove-row.ensures.updates.others;
      left =
          left_next h f c.args.order.now c.args.start c.loop-end.end place row (components c.args.name) inv.rows inv.lower from lt (sym c.get-place.ensures) c.remove-row.ensures.value c.remove-row.ensures.updates.others
          (shown (get c.args.entries.now) c.args.order.now) (omega (arith, length-shown (get c.args.entries.now) c.args.order.now c.requires.rows.there)) inv.left;
      at_most = omega (arith, c.if-end-start.false);
      cap = ap (λ (u : LruCache ℕ ℕ). u.cap) uses ∙ inv.cap;
      taken =
          λ next sound.
          let so = inv.taken next sound in
          let all = shown (get c.args.entries.now) c.args.order.now in
          let after = shown f (without_range c.args.start (c.loop-end.end + 1) c.args.order.now) in
          let fewer = so.fewer in
          let less = fewer_next h f c.args.order.now c.args.start c.loop-end.end place row (components c.args.name) inv.rows inv.lower from lt (sym c.get-place.ensures) c.remove-row.ensures.value c.remove-row.ensures.updates.others c.loop-end.used.entries next so.sound in
          let more : (c.loop-end.end - c.args.start) + 1 ≡ (c.loop-end.end + 1) - c.args.start = omega arith in
          subst (λ (u : LruCache ℕ ℕ). TakenSoFar (components c.args.name) all c.args.used.now after u next ((c.loop-end.end + 1) - c.args.start)) (sym uses)
          (record {
            sound = sound_next h f c.args.order.now c.args.start c.loop-end.end place row (components c.args.name) inv.rows inv.lower from lt (sym c.get-place.ensures) c.remove-row.ensures.value c.remove-row.ensures.updates.others c.loop-end.used.entries next so.sound;
            fewer = omega arith;
            taken = subst (λ (n : ℕ). TakesLeast (components c.args.name) (cached_in all c.args.used.now.entries) (cached_in after (remove_entry (nat_eq row.serial) c.loop-end.used.entries)) n) more
                (taken_next h f c.args.order.now c.args.start c.loop-end.end place row (components c.args.name) inv.rows inv.lower from lt (sym c.get-place.ensures) c.remove-row.ensures.value c.remove-row.ensures.updates.others
                c.loop-end.used.entries next so.sound under (cached_in all c.args.used.now.entries) (c.loop-end.end - c.args.start) so.taken);
          });
    }

pub returns-clause-from : goal.returns-clause-from
returns-clause-from c =
    let len = length-shown (get c.args.entries.now) c.args.order.now c.requires.rows.there in
    let le = c.requires.start.within in
    omega arith

pub returns-clause-left : goal.returns-clause-left
returns-clause-left c =
    let len = length-shown (get c.args.entries.now) c.args.order.now c.requires.rows.there in
    let le = c.requires.start.within in
    let from = c.loop-end.auto.end in
    let same : c.loop-end.end ≡ c.len.result = omega (arith, c.len.ensures) in
    let all = shown (get c.args.entries.now) c.args.order.now in
    subst (λ (n : ℕ). shown (get c.loop-end.entries) (without_range c.args.start n c.args.order.now) ≡ without_range c.args.start n all) same c.loop-end.invariant.left

pub returns-clause-taken : goal.returns-clause-taken
returns-clause-taken c =
    let inv = c.loop-end.invariant in
    let len = length-shown (get c.args.entries.now) c.args.order.now c.requires.rows.there in
    let le = c.requires.start.within in
    let same : c.loop-end.end ≡ c.len.result = omega (arith, c.len.ensures) in
    let from = c.loop-end.auto.end in
    let all = shown (get c.args.entries.now) c.args.order.now in
    subst (λ (n : ℕ). (next : ℕ) → Sound all c.args.used.now.entries next
    → TakesUnder (components c.args.name) c.args.most all c.args.used.now (shown (get c.loop-end.entries) (without_range c.args.start n c.args.order.now)) c.loop-end.used next (n - c.args.start)) same
    (λ next sound. let so = inv.taken next sound in
    let after = shown (get c.loop-end.entries) (without_range c.args.start c.loop-end.end c.args.order.now) in
    let short : length after ≡ c.args.start =
    omega (arith, length-shown (get c.loop-end.entries) (without_range c.args.start c.loop-end.end c.args.order.now) inv.rows.there, range_len c.args.order.now c.args.start c.loop-end.end (omega arith) (omega arith)) in
    record {
      sound = so.sound;
      cap = inv.cap;
      fewer = so.fewer;
      taken = so.taken;
      at_most = inv.at_most;
      ended = inr (none_left (components c.args.name) after c.loop-end.used.entries next c.args.start so.sound inv.lower (λ d within p. absurd (omega arith)));
    })
