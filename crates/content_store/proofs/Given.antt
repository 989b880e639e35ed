-- What a search in a store returns, and the state of the store after the search.
use Rattle.std.proofs.Common.{◌≡◌, ℕ, List, get_or, refl, ap, sym, subst, ◌∙◌, All}
use Rattle.std.specs.Prelude.{None, Some, nat_eq}
use Rattle.lru.specs.LruCache.{LruCache, lru_cache, promoted}
use Rattle.ndn_packets.specs.Key.{PlainKey}
use Rattle.content_store.specs.declared.rows.Row.{Row}
use Rattle.content_store.specs.Store.{CachedData, StoreState, IsStore, IsLeast, CanServe, GivesData, Finds, with_used}
use Rattle.content_store.specs.Rows.{Placed, FirstWith, held_at}
use Rattle.content_store.specs.Uses.{IsHeld, UsesAt, cached_in}
use Rattle.content_store.proofs.Least.{held_store, none_serves, first_is_least}
use Rattle.content_store.proofs.Promotes.{held_used, stands_at, cached_used}

-- the state of a store that has these rows, this LRU cache and this capacity
abbrev pub seen : List Placed → LruCache ℕ ℕ → ℕ → StoreState
seen rows used capacity = record { cached = cached_in rows used.entries; capacity = capacity }

module _ (rows : List Placed) (used used' : LruCache ℕ ℕ) (capacity next : ℕ) (h : IsHeld rows used capacity next) (key : PlainKey) (now : ℕ) (s : StoreState) (is : seen rows used capacity ≡ s) where
  pub gives_none : FirstWith (CanServe key now) rows None → GivesData key now s.cached None × IsStore s × Finds key now s None s
  gives_none first =
      let none : All (λ d. CanServe key now d → ⊥) s.cached =
      subst (λ (t : StoreState). All (λ d. CanServe key now d → ⊥) t.cached) is (none_serves (CanServe key now) rows used.entries next h.sound first) in
      (none, subst IsStore is (held_store rows used capacity next h), (none, refl))

  pub least_of : (at : ℕ) → FirstWith (CanServe key now) rows (Some at) → (c : CachedData) × IsLeast (CanServe key now) s.cached c
  least_of at first =
      let r = stands_at rows at first.0 in
      (held_at r.0, subst (λ (t : StoreState). IsLeast (CanServe key now) t.cached (held_at r.0)) is (first_is_least (CanServe key now) rows used.entries next h.sound at r.0 (r.1 r.0) first))

  module _ (at : ℕ) (first : FirstWith (CanServe key now) rows (Some at)) (uses : UsesAt rows used at used') where
    pub kept : IsHeld rows used' capacity next
    kept =
        let r = stands_at rows at first.0 in
        let u : used' ≡ lru_cache (promoted (nat_eq r.0.1.serial) used.entries) used.cap =
        uses r.0 ∙ ap (λ (x : Placed). lru_cache (promoted (nat_eq x.1.serial) used.entries) used.cap) (r.1 r.0) in
        subst (λ (v : LruCache ℕ ℕ). IsHeld rows v capacity next) (sym u) (held_used rows used capacity next at r.0 h first.0 (r.1 r.0))

    pub gives_some : (row : Row) (octets : List ℕ) → ((d : Placed) → (get_or rows at d).1 ≡ row) → octets ≡ row.entry.octets
        → GivesData key now s.cached (Some octets) × IsStore (seen rows used' capacity) × Finds key now s (Some octets) (seen rows used' capacity)
    gives_some row octets stands o =
        let r = stands_at rows at first.0 in
        let u : used' ≡ lru_cache (promoted (nat_eq r.0.1.serial) used.entries) used.cap =
        uses r.0 ∙ ap (λ (x : Placed). lru_cache (promoted (nat_eq x.1.serial) used.entries) used.cap) (r.1 r.0) in
        let least : IsLeast (CanServe key now) s.cached (held_at r.0) =
        subst (λ (t : StoreState). IsLeast (CanServe key now) t.cached (held_at r.0)) is (first_is_least (CanServe key now) rows used.entries next h.sound at r.0 (r.1 r.0) first) in
        let row_is : row ≡ r.0.1 = sym (stands r.0) ∙ ap (λ (x : Placed). x.1) (r.1 r.0) in
        let octets_are : octets ≡ (held_at r.0).octets = o ∙ ap (λ (x : Row). x.entry.octets) row_is in
        let after : seen rows used' capacity ≡ with_used s (held_at r.0) =
        ap (λ v. seen rows v capacity) u ∙ ap (λ (l : List CachedData). record { cached = l; capacity = capacity }) (cached_used rows used.entries next at r.0 h.sound first.0 (r.1 r.0))
        ∙ ap (λ (t : StoreState). with_used t (held_at r.0)) is in (
          (held_at r.0, least, octets_are),
          held_store rows used' capacity next kept,
          (held_at r.0, least, octets_are, after),
        )
