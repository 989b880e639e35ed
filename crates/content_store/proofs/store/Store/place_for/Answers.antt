use Rattle.ndn_packets.specs.Key.{plain_key}
use Rattle.std.specs.Prelude.{MatchOption, Option, None, Some}
use Rattle.std.proofs.Common.{◌≡◌, ℕ, List, All}
use Rattle.ndn_packets.specs.Key.{PlainKey}
use Rattle.content_store.specs.Store.{CachedData, CanServe, IsLeast, StoreState}
use Rattle.content_store.specs.Rows.{FirstWith, Placed}
use Rattle.content_store.specs.Uses.{IsHeld}
use Rattle.lru.specs.LruCache.{LruCache}
use Rattle.content_store.proofs.Given.{gives_none, least_of, seen}
use Rattle.content_store.proofs.store.Store.place_for.Goals as goal

tells : (rows : List Placed) (used : LruCache ℕ ℕ) (capacity next : ℕ) → IsHeld rows used capacity next → (key : PlainKey) (now : ℕ) (s : StoreState) → seen rows used capacity ≡ s → (r : Option ℕ)
    → MatchOption r (FirstWith (CanServe key now) rows None) (λ _. (at : ℕ) × FirstWith (CanServe key now) rows (Some at))
    → MatchOption r (All (λ c. CanServe key now c → ⊥) s.cached) (λ _. (c : CachedData) × IsLeast (CanServe key now) s.cached c)
tells rows used capacity next h key now s is None first = (gives_none rows used used capacity next h key now s is first).0
tells rows used capacity next h key now s is (Some start) first = least_of rows used used capacity next h key now s is first.0 first.1

pub returns : goal.returns
returns c = tells c.self.inside.rows c.self.inside.used c.self.inside.capacity c.self.inside.next c.self.invariant (plain_key c.args.key) c.args.now c.args.self.now c.self.view_is c.start_for.result c.start_for.ensures
