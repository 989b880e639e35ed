-- Lists with some elements removed. A Data is cached with its own name, implicit digest and
-- FreshnessPeriod.
use Rattle.std.proofs.Common.{◌≡◌, ◌⊎◌, inl, inr, Bool, true, false, cond, ◌&&◌, List, [], ◌∷◌, filter, refl, sym, ap, subst, All, Contains}
use Rattle.std.proofs.lemmas.List.Elements.{All-same, All-filter, All-contains_itself}
use Rattle.ndn_packets.specs.declared.data.Data.{Data}
use Rattle.ndn_packets.specs.View.{plain_data}
use Rattle.ndn_packets.proofs.Held.{data_read}
use Rattle.std.proofs.Common.{ℕ}
use Rattle.content_store.specs.Store.{CachedData, IsCachedData, LosesSome, StoreState, cached_at}

pub filter_both : (p q : CachedData → Bool) (xs : List CachedData) → filter q (filter p xs) ≡ filter (λ x. p x && q x) xs
filter_both p q [] = refl
filter_both p q (x ∷ xs) = split (p x) (filter_both p q xs)
  where
    split : (b : Bool) → filter q (filter p xs) ≡ filter (λ y. p y && q y) xs
        → filter q (cond b (x ∷ filter p xs) (filter p xs)) ≡ cond (b && q x) (x ∷ filter (λ y. p y && q y) xs) (filter (λ y. p y && q y) xs)
    split true e = ap (λ (t : List CachedData). cond (q x) (x ∷ t) t) e
    split false e = e

none_stay : (cs : List CachedData) → [] ≡ filter (λ _. false) cs
none_stay [] = refl
none_stay (c ∷ cs) = none_stay cs

pub all_stay : (xs : List CachedData) → xs ≡ filter (λ _. true) xs
all_stay [] = refl
all_stay (x ∷ xs) = ap (λ (t : List CachedData). x ∷ t) (all_stay xs)

pub nothing_lost : (cs : List CachedData) → LosesSome cs cs
nothing_lost cs = record { stays = λ _. true; left = all_stay cs }

-- if a store stays unchanged or becomes empty, `LosesSome` is true for its old and new cached Data
pub loses_either : (old new : StoreState) → (new ≡ old) ⊎ (new ≡ record old { cached = [] }) → LosesSome old.cached new.cached
loses_either old new (inl e) = subst (λ (s : StoreState). LosesSome old.cached s.cached) (sym e) (nothing_lost old.cached)
loses_either old new (inr e) =
    subst (λ (s : StoreState). LosesSome old.cached s.cached) (sym e) (record { stays = λ _. false; left = none_stay old.cached })

-- if a list has lost some elements, each remaining element was in the list before
pub loses_some-contained : (xs ys : List CachedData) → LosesSome xs ys → All (Contains xs) ys
loses_some-contained xs ys h = All-same (Contains xs) _ _ h.left (All-filter h.stays (Contains xs) xs (All-contains_itself xs))

pub cached_is_data : (d : Data) (arrival : ℕ) → IsCachedData (cached_at d arrival)
cached_is_data d arrival =
    record { packet = plain_data d; read = data_read d; name = refl; digest = refl; freshness = refl }
