use Rattle.std.proofs.Common.{subst, ◌∙◌, arith}
use Rattle.ndn_names.specs.View.{components}
use Rattle.content_store.specs.Store.{Erases, StoreState}
use Rattle.content_store.specs.Uses.{IsHeld, TakesUnder, cached_in}
use Rattle.content_store.proofs.Least.{held_store}
use Rattle.content_store.proofs.Taken.{erases}
use Rattle.content_store.proofs.store.Store.erase.Goals as goal
use Rattle.content_store.proofs.store.Store.erase.Goals.{After-remove_under}

taken : (c : After-remove_under) → TakesUnder (components c.args.name) c.unwrap_or-most.result c.self.inside.rows c.self.inside.used c.remove_under.new.self c.remove_under.new.used c.self.inside.next c.remove_under.result
taken c = c.remove_under.ensures c.self.inside.next c.self.invariant.sound

held : (c : After-remove_under) → IsHeld c.remove_under.new.self c.remove_under.new.used c.self.inside.capacity c.self.inside.next
held c =
    let h = c.self.invariant in
    let fits = h.within in
    let t = taken c in
    let fewer = t.fewer in
    record { sound = t.sound; cap = t.cap ∙ h.cap; within = omega arith; low = h.low; high = h.high }

pub invariant_of-self : goal.invariant_of-self
invariant_of-self c = held c

pub returns-clause-erased : goal.returns-clause-erased
returns-clause-erased c =
    let h = c.self.invariant in
    let t = taken c in
    let store = held_store c.self.inside.rows c.self.inside.used c.self.inside.capacity c.self.inside.next h in
    let fits = store.within_capacity in
    let few = store.at_most_65536 in
    subst (λ (s : StoreState). Erases (components c.args.name) c.args.count s.cached (cached_in c.remove_under.new.self c.remove_under.new.used.entries) c.remove_under.result) c.self.view_is
    (erases (components c.args.name) c.args.count (cached_in c.self.inside.rows c.self.inside.used.entries) (cached_in c.remove_under.new.self c.remove_under.new.used.entries) c.remove_under.result c.unwrap_or-most.result c.unwrap_or-most.ensures t.taken t.at_most t.ended (omega arith))

pub returns-clause-store : goal.returns-clause-store
returns-clause-store c = held_store _ _ c.self.inside.capacity c.self.inside.next (held c)
