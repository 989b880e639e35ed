use Rattle.std.proofs.Common.{◌≡◌, ◌⊎◌, Bool, true, false, inl, inr, ℕ, ◌<◌, ◌≤◌, length, get_or, refl, sym, ap, subst, ◌∙◌, arith}
use Rattle.slab.specs.Slab.{get}
use Rattle.ndn_names.specs.View.{components}
use Rattle.ndn_packets.specs.Key.{plain_key}
use Rattle.ndn_packets.specs.FullName.{is_near}
use Rattle.content_store.specs.Rows.{Placed, shown, name_at, held_at}
use Rattle.content_store.specs.Store.{CanServe, IsFreshData, full_name_of}
use Rattle.content_store.specs.Blocks.{fresh_until}
use Rattle.content_store.proofs.Shown.{length-shown, shown_at}
use Rattle.content_store.proofs.Under.{under_not_less, under_served, serves_near, far_after}
use Rattle.content_store.proofs.rows.first_from.Goals as goal
use Rattle.content_store.proofs.rows.first_from.Goals.{After-is_near, After-next_place-at}

here : (c : After-is_near) → (d : Placed) → get_or (shown (get c.args.entries.now) c.args.order.now) c.loop-at.at d ≡ (get_or c.args.order.now c.loop-at.at 0, c.index.result.now)
here c = shown_at (get c.args.entries.now) c.args.order.now c.loop-at.at c.index.result.now c.requires.rows.there (omega arith) (ap (get c.args.entries.now) (sym c.get.ensures) ∙ c.index.ensures)

pub loop-at-init : goal.loop-at-init
loop-at-init c = (
  omega arith,
  λ k d lt within serves. under_not_less (components c.args.key.name) _ (under_served (plain_key c.args.key) c.args.now (held_at (get_or (shown (get c.args.entries.now) c.args.order.now) k d)) serves) (c.requires.start.below k d lt),
)

order_of : (m n : ℕ) → (m < n) ⊎ ((m ≡ n) ⊎ (n < m))
order_of m n = grind arith

-- if the row that was just read cannot serve the Interest, no row before the next position to read
-- can serve it
passed : (c : After-next_place-at) → (CanServe (plain_key c.args.key) c.args.now c.index.result.now.entry → ⊥)
    → (k : ℕ) (d : Placed) → k < c.next_place-at.result → k < length (shown (get c.args.entries.now) c.args.order.now)
    → CanServe (plain_key c.args.key) c.args.now (held_at (get_or (shown (get c.args.entries.now) c.args.order.now) k d)) → ⊥
passed c never k d lt within serves =
    let b = (goal.at.loop-at-preserved c).After-is_near in
    elim (order_of k c.loop-at.at) [
      | inl before ↦ c.loop-at.invariant.1 k d before within serves
      | inr (inl same) ↦ never (subst (λ (r : Placed). CanServe (plain_key c.args.key) c.args.now (held_at r)) (here b d)
          (subst (λ (n : ℕ). CanServe (plain_key c.args.key) c.args.now (held_at (get_or (shown (get c.args.entries.now) c.args.order.now) n d))) same serves))
      | inr (inr after) ↦ stale c.args.key.must_be_fresh refl after
          (c.next_place-at.ensures.over (shown (get c.args.entries.now) c.args.order.now) c.requires.blocks k d after lt within) serves.1
    ]
  where
    stale : (b : Bool) → c.args.key.must_be_fresh ≡ b → c.loop-at.at < k → fresh_until (held_at (get_or (shown (get c.args.entries.now) c.args.order.now) k d)) ≤ c.args.now
        → (c.args.key.must_be_fresh ≡ true → IsFreshData (held_at (get_or (shown (get c.args.entries.now) c.args.order.now) k d)) c.args.now) → ⊥
    stale true e after over fresh = (let is = fresh e in omega (arith, over, is))
    stale false e after over fresh = (let one = c.next_place-at.ensures.next e in omega (arith, one, after, lt))

before_or : (k at : ℕ) → (k < at) ⊎ (at ≤ k)
before_or k at = grind arith

pub returns-then-not-is_near : goal.returns-then-not-is_near
returns-then-not-is_near c =
    let b = (goal.at.returns-then-not-is_near c).After-is_near in
    let start = c.loop-at.invariant.0 in
    let lt = c.loop-at-test.true in
    let len = length-shown (get c.args.entries.now) c.args.order.now c.requires.rows.there in
    λ k d within serves. elim (before_or k c.loop-at.at) [
      | inl before ↦ c.loop-at.invariant.1 k d before within serves
      | inr after ↦ far_after (components c.args.key.name) c.args.key.can_be_prefix (shown (get c.args.entries.now) c.args.order.now) c.loop-at.at c.requires.rows.rising (omega arith)
          (λ e. c.requires.start.above c.loop-at.at e start (omega arith))
          (λ e near. (let t : is_near (components c.args.key.name) c.args.key.can_be_prefix (full_name_of c.index.result.now.entry) ≡ true = subst (λ (r : Placed). is_near (components c.args.key.name) c.args.key.can_be_prefix (name_at r) ≡ true) (here b e) near in
          let u = c.is_near.ensures in let f = c.if-not-is_near.true in cc))
          k d after within (serves_near (plain_key c.args.key) c.args.now (held_at (get_or (shown (get c.args.entries.now) c.args.order.now) k d)) serves)
    ]

pub returns-then-can_serve : goal.returns-then-can_serve
returns-then-can_serve c =
    let b = (goal.at.returns-then-can_serve c).After-is_near in
    let lt = c.loop-at-test.true in
    let len = length-shown (get c.args.entries.now) c.args.order.now c.requires.rows.there in
    let serves : CanServe (plain_key c.args.key) c.args.now c.index.result.now.entry = c.can_serve.ensures.0 c.if-can_serve.true in (
      omega arith,
      λ d. subst (λ (r : Placed). CanServe (plain_key c.args.key) c.args.now (held_at r)) (sym (here b d)) serves,
      λ k d before. c.loop-at.invariant.1 k d before (omega arith),
    )

pub loop-at-preserved : goal.loop-at-preserved
loop-at-preserved c =
    let b = (goal.at.loop-at-preserved c).After-is_near in
    let never : CanServe (plain_key c.args.key) c.args.now c.index.result.now.entry → ⊥ = λ p. (let t = c.can_serve.ensures.1 p in let f = c.if-can_serve.false in cc) in
    (let up = c.loop-at.invariant.0 in let after = c.next_place-at.ensures.after in omega arith, passed c never)

pub returns : goal.returns
returns c =
    let len = length-shown (get c.args.entries.now) c.args.order.now c.requires.rows.there in
    λ k d lt. c.loop-at.invariant.1 k d (omega arith) lt
