use Rattle.std.proofs.Common.{◌≡◌, ◌⊎◌, ℕ, false, List, [], ◌∷◌, inl, inr, take, ap, sym, subst, ◌∙◌}
use Rattle.std.specs.List.{Contains}
use Rattle.content_store.specs.Store.{CachedData, StoreState, cached_at, full_name_of, with_cached, without}
use Rattle.content_store.specs.Uses.{IsHeld, cached_in}
use Rattle.content_store.proofs.Given.{seen}
use Rattle.content_store.proofs.Least.{held_store}
use Rattle.content_store.proofs.Losses.{loses_either}
use Rattle.content_store.proofs.Renewed.{none_cached}
use Rattle.content_store.proofs.store.Store.put.Goals as goal
use Rattle.content_store.proofs.store.Store.put.Goals.{After-put_data}

pub put_data-requires : goal.put_data-requires
put_data-requires c = subst (λ n. IsHeld c.self.inside.rows c.self.inside.used n c.self.inside.next) (sym c.self.invariant.cap) c.self.invariant

held : (c : After-put_data) → IsHeld c.put_data.new.rows c.put_data.new.used c.self.inside.capacity c.put_data.new.next
held c = subst (λ n. IsHeld c.put_data.new.rows c.put_data.new.used n c.put_data.new.next) c.self.invariant.cap c.put_data.ensures.held

pub invariant_of-self : goal.invariant_of-self
invariant_of-self c = held (goal.at.invariant_of-self c).After-put_data

pub returns-clause-ok : goal.returns-clause-ok
returns-clause-ok c =
    let entry = cached_at c.args.packet.now c.args.arrival in
    let others : List CachedData = without (full_name_of entry) (cached_in c.self.inside.rows c.self.inside.used.entries) in
    λ t. ap (λ (l : List CachedData). record { cached = l; capacity = c.self.inside.capacity }) (c.put_data.ensures.ok t)
    ∙ ap (λ (n : ℕ). record { cached = take n (entry ∷ others); capacity = c.self.inside.capacity }) c.self.invariant.cap
    ∙ ap (λ (s : StoreState). with_cached s entry) c.self.view_is

-- after a refusal the store is unchanged or empty
unharmed : (c : After-put_data) → c.put_data.result ≡ false
    → (seen c.put_data.new.rows c.put_data.new.used c.self.inside.capacity ≡ c.args.self.now)
    ⊎ (seen c.put_data.new.rows c.put_data.new.used c.self.inside.capacity ≡ record { cached = []; capacity = c.args.self.now.capacity })
unharmed c f =
    elim (c.put_data.ensures.refused f) as (λ _. (seen c.put_data.new.rows c.put_data.new.used c.self.inside.capacity ≡ c.args.self.now)
    ⊎ (seen c.put_data.new.rows c.put_data.new.used c.self.inside.capacity ≡ record { cached = []; capacity = c.args.self.now.capacity })) [
      | (inl s) ↦ inl ((λ i. seen (s.0 i) (s.1 i) c.self.inside.capacity) ∙ c.self.view_is)
      | (inr e) ↦ inr ((λ i. seen (e.1 i) (e.2 i) c.self.inside.capacity)
          ∙ ap (λ (l : List CachedData). record { cached = l; capacity = c.self.inside.capacity }) none_cached
          ∙ ap (λ (s : StoreState). record s { cached = [] }) c.self.view_is)
    ]

pub returns-clause-refused : goal.returns-clause-refused
returns-clause-refused c = λ f. loses_either c.args.self.now _ (unharmed c f)

pub returns-clause-unharmed : goal.returns-clause-unharmed
returns-clause-unharmed c = unharmed c

pub returns-clause-same : goal.returns-clause-same
returns-clause-same c = λ d held named octets. c.put_data.ensures.same d (subst (λ (s : StoreState). Contains s.cached d) (sym c.self.view_is) held) named octets

pub returns-clause-store : goal.returns-clause-store
returns-clause-store c = held_store c.put_data.new.rows c.put_data.new.used c.self.inside.capacity c.put_data.new.next (held c)
