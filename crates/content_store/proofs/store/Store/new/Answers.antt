use Rattle.std.proofs.Common.{◌≡◌, ◌∙◌, ◌<◌, ℕ, List, [], ap, subst, arith}
use Rattle.lru.specs.LruCache.{lru_cache}
use Rattle.content_store.specs.Store.{CachedData}
use Rattle.content_store.specs.Uses.{IsHeld, cached_in}
use Rattle.content_store.proofs.Least.{held_store}
use Rattle.content_store.proofs.Renewed.{held_new}
use Rattle.content_store.proofs.store.Store.new.Goals as goal
use Rattle.content_store.proofs.store.Store.new.Goals.{After-new-2}

whole : (c : After-new-2) → IsHeld c.new-2.result c.in-Ok.used c.args.capacity 0 × (cached_in c.new-2.result c.in-Ok.used.entries ≡ [])
whole c =
    let low : 0 < c.args.capacity = subst (λ (n : ℕ). 0 < n) c.in-Some.ensures c.in-Some.most.ok in
    let high = c.if-capacity-gt-MAX_CAPACITY.false in
    held_new c.new-2.result c.in-Ok.used c.args.capacity 0 c.new-2.ensures
    (c.in-Ok.ensures ∙ ap (λ (n : ℕ). lru_cache [] n) c.in-Some.ensures) (omega arith) (omega arith)

pub invariant_of-result : goal.invariant_of-result
invariant_of-result c = (whole c).0

pub returns-clause-ok : goal.returns-clause-ok
returns-clause-ok c = ap (λ (l : List CachedData). record { cached = l; capacity = c.args.capacity }) (whole (goal.at.returns-clause-ok c).After-new-2).1

pub returns-clause-store : goal.returns-clause-store
returns-clause-store c = held_store _ _ c.args.capacity 0 (whole (goal.at.returns-clause-store c).After-new-2).0
