use Rattle.content_store.specs.Store.{full_name_of}
use Rattle.std.proofs.Common.{◌≡◌, ◌-◌, ◌+◌, ◌/◌, ◌<◌, ◌≤◌, ℕ, length, get_or, sym, ap, ◌∙◌, subst, arith}
use Rattle.std.specs.declared.cmp.Ordering.TheVariants.{Less}
use Rattle.slab.specs.Slab.{get}
use Rattle.ndn_names.specs.Order.{name_cmp}
use Rattle.content_store.specs.Sought.{sought_name}
use Rattle.content_store.specs.Rows.{Placed, shown, name_at}
use Rattle.content_store.proofs.Shown.{length-shown, less_is, lt_is, shown_at, low_moves, high_moves, halved}
use Rattle.content_store.proofs.rows.lower_bound.Goals as goal
use Rattle.content_store.proofs.rows.lower_bound.Goals.{After-is_below}

-- the middle position of the range that is still searched
abbrev mid_of : After-is_below → ℕ
mid_of c = c.loop-low.low + (c.loop-low.high - c.loop-low.low) / 2

here : (c : After-is_below) → (d : Placed) → get_or (shown (get c.args.entries.now) c.args.order.now) (mid_of c) d ≡ (get_or c.args.order.now (mid_of c) 0, c.index.result.now)
here c =
    let lt = c.loop-low-test.true in
    let le = c.loop-low.invariant.1 in
    shown_at (get c.args.entries.now) c.args.order.now (mid_of c) c.index.result.now c.requires.rows.there (omega arith) (ap (get c.args.entries.now) (sym c.get_between-block.ensures) ∙ c.index.ensures)

long : (c : After-is_below) → mid_of c < length (shown (get c.args.entries.now) c.args.order.now)
long c =
    let lt = c.loop-low-test.true in
    let le = c.loop-low.invariant.1 in
    let len = length-shown (get c.args.entries.now) c.args.order.now c.requires.rows.there in
    omega arith

pub loop-low-init : goal.loop-low-init
loop-low-init c =
    let len = length-shown (get c.args.entries.now) c.args.order.now c.requires.rows.there in
    (record { ordered = omega arith; below = λ k d lt. absurd (omega arith); above = λ k d ge lt. absurd (omega (arith, len)) }, omega arith, 17, omega arith, omega arith, omega arith)

pub loop-low-preserved-then-is_below : goal.loop-low-preserved-then-is_below
loop-low-preserved-then-is_below c =
    let b = (goal.at.loop-low-preserved-then-is_below c).After-is_below in
    let lt = c.loop-low-test.true in
    let inv = c.loop-low.invariant in
    let up = inv.4 in
    let less : name_cmp (full_name_of c.index.result.now.entry) (sought_name c.args.sought) ≡ Less = less_is _ (sym c.is_below.ensures ∙ c.if-is_below.true) in
    let next = halved inv.2 c.loop-low.low c.loop-low.high (c.loop-low.high - (mid_of b + 1)) inv.5 lt (omega arith) in
    let one = next.1 in
    let sum = inv.3 in (
      low_moves (sought_name c.args.sought) _ c.requires.rows.rising (mid_of b) (get_or c.args.order.now (mid_of b) 0, c.index.result.now) (long b) (here b) c.loop-low.low c.loop-low.high inv.0 (omega arith) less,
      inv.1,
      next.0,
      omega arith,
      omega arith,
      next.2,
    )

pub loop-low-preserved : goal.loop-low-preserved
loop-low-preserved c =
    let b = (goal.at.loop-low-preserved c).After-is_below in
    let lt = c.loop-low-test.true in
    let inv = c.loop-low.invariant in
    let up = inv.4 in
    let le = inv.1 in
    let never : name_cmp (full_name_of c.index.result.now.entry) (sought_name c.args.sought) ≡ Less → ⊥ =
    λ e. (let t = lt_is _ e in let f = sym c.is_below.ensures ∙ c.if-is_below.false in cc) in
    let next = halved inv.2 c.loop-low.low c.loop-low.high (mid_of b - c.loop-low.low) inv.5 lt (omega arith) in
    let one = next.1 in
    let sum = inv.3 in (
      high_moves (sought_name c.args.sought) _ c.requires.rows.rising (mid_of b) (get_or c.args.order.now (mid_of b) 0, c.index.result.now) (long b) (here b) c.loop-low.low c.loop-low.high inv.0 (omega arith) never,
      omega arith,
      next.0,
      omega arith,
      omega arith,
      next.2,
    )

pub returns-clause-lower : goal.returns-clause-lower
returns-clause-lower c =
    let len = length-shown (get c.args.entries.now) c.args.order.now c.requires.rows.there in
    let so = c.loop-low.invariant.0 in
    let ordered = so.ordered in
    let same : c.loop-low.high ≡ c.loop-low.low = omega arith in
    record {
      within = omega arith;
      below = so.below;
      above = subst (λ (n : ℕ). (k : ℕ) (d : Placed) → n ≤ k → k < length (shown (get c.args.entries.now) c.args.order.now)
          → name_cmp (name_at (get_or (shown (get c.args.entries.now) c.args.order.now) k d)) (sought_name c.args.sought) ≡ Less → ⊥) same so.above;
    }

pub returns-clause-counted : goal.returns-clause-counted
returns-clause-counted c = c.loop-low.invariant.4
