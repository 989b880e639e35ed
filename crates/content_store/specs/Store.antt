-- What a content store caches and returns (NFD Developer's Guide, "Content Store"; NDN Packet
-- Format 0.3, "Name", "Implicit Digest Component", and "Data Packet", FreshnessPeriod).
use Rattle.std.specs.Prelude.{◌≡◌, ◌≢◌, ◌⊎◌, ℕ, ◌+◌, ◌-◌, ◌<◌, ◌≤◌, ◌^◌, min, List, [], ◌∷◌, length, take, filter, not, Bool, true, false, Option, None, Some, IfSome, refl}
use Rattle.std.specs.List.{All, AllByRecursion, Contains}
use Rattle.std.specs.Coded.{Coded, code_by, coded×, coded_list, coded_ℕ}
use Rattle.std.specs.Ordering.{eq_by_cmp}
use Rattle.sha2.specs.Sha256.{sha256}
use Rattle.ndn_tlv.specs.Element.{Field}
use Rattle.ndn_names.specs.Key.{name_code}
use Rattle.ndn_names.specs.Name.{IsPrefix}
use Rattle.ndn_names.specs.Order.{Less, name_cmp}
use Rattle.ndn_names.specs.View.{components}
use Rattle.ndn_packets.specs.Answers.{full_name, Answers}
use Rattle.ndn_packets.specs.declared.data.Data.{Data}
use Rattle.ndn_packets.specs.Grammar.{IsData}
use Rattle.ndn_packets.specs.Key.{PlainKey}
use Rattle.ndn_packets.specs.Packet.{PlainData}
use Rattle.content_store.specs.declared.store.TheConstants.{MAX_CAPACITY}

-- A cached Data: its name, its implicit digest, its octets, its FreshnessPeriod in milliseconds,
-- and the moment of its arrival, in milliseconds since 1970.
pub record CachedData : Type 0 where
  pub name : List Field
  pub digest : List ℕ
  pub octets : List ℕ
  pub freshness : ℕ
  pub arrival : ℕ

-- the cached Data for the Data `d`, if `d` arrives at the moment `arrival`
abbrev pub cached_at : Data → ℕ → CachedData
cached_at d arrival = record {
  name = components d.name;
  digest = sha256 d.whole.now;
  octets = d.whole.now;
  freshness = d.freshness;
  arrival = arrival;
}

abbrev pub full_name_of : CachedData → List Field
full_name_of c = full_name c.name c.digest

-- The state of a store. `cached` is the list of cached Data, with the most recently used Data
-- first. `capacity` is the greatest number of Data that the store can cache.
pub record StoreState : Type 0 where
  pub cached : List CachedData
  pub capacity : ℕ

-- no two Data have the same full name
abbrev pub EachOnce : List CachedData → Type 0
EachOnce [] = Unit {0}
EachOnce (c ∷ cs) = AllByRecursion (λ d. full_name_of c ≢ full_name_of d) cs × EachOnce cs

-- The field `octets` of `c` is an encoded Data. The fields `name`, `digest` and `freshness` are the
-- name, the implicit digest and the FreshnessPeriod of this Data.
pub record IsCachedData (c : CachedData) : Type 0 where
  pub packet : PlainData
  pub read : IsData c.octets packet
  pub name : c.name ≡ packet.name
  pub digest : c.digest ≡ sha256 c.octets
  pub freshness : c.freshness ≡ packet.freshness

-- The capacity is from 1 to 65,536, and at most `capacity` Data are cached. No two cached Data have
-- the same full name, and each cached Data agrees with its octets (`IsCachedData`).
pub record IsStore (s : StoreState) : Type 0 where
  pub not_none : 1 ≤ s.capacity
  pub at_most_65536 : s.capacity ≤ MAX_CAPACITY
  pub within_capacity : length s.cached ≤ s.capacity
  pub each_once : EachOnce s.cached
  pub each_data : All IsCachedData s.cached

-- the Data is fresh at the moment `now`: `now` is less than the arrival plus the FreshnessPeriod,
-- and less than 2^64 - 1
abbrev pub IsFreshData : CachedData → ℕ → Type 0
IsFreshData c now = now < min (c.arrival + c.freshness) (2 ^ 64 - 1)

-- the Data answers an Interest with this key (the Interest's name, CanBePrefix and MustBeFresh); if
-- the key has MustBeFresh, the Data is also fresh at the moment `now`
abbrev pub CanServe : PlainKey → ℕ → CachedData → Type 0
CanServe key now c =
    Answers c.name c.digest key.name key.can_be_prefix
    × (key.must_be_fresh ≡ true → IsFreshData c now)

-- Among the cached Data with the property `P`, `c` has the least full name in canonical order.
pub record IsLeast (P : CachedData → Type 0) (cs : List CachedData) (c : CachedData) : Type 0 where
  pub is_cached : Contains cs c
  pub has : P c
  pub none_less : All (λ d. P d → ¬ Less (full_name_of d) (full_name_of c)) cs

-- the Data of the list `cached` whose full names differ from `name`, in the order of the list
abbrev pub without : List Field → List CachedData → List CachedData
without name cached = filter (λ c. not (eq_by_cmp name_cmp (full_name_of c) name)) cached

-- `after` is what remains of the list `before` when some or no elements are removed. The remaining
-- elements keep their order.
pub record LosesSome (before after : List CachedData) : Type 0 where
  pub stays : CachedData → Bool
  pub left : after ≡ filter stays before

-- the store after `c` is added as the most recently used Data: `c` replaces a Data with the same
-- full name, and Data beyond the capacity are evicted
abbrev pub with_cached : StoreState → CachedData → StoreState
with_cached s c = record s {
  cached = take s.capacity (c ∷ without (full_name_of c) s.cached);
}

-- the store after its cached Data `c` becomes the most recently used Data
abbrev pub with_used : StoreState → CachedData → StoreState
with_used s c = record s { cached = c ∷ without (full_name_of c) s.cached }

-- What a store returns for a key: the octets of the Data with the least full name among those that
-- can serve an Interest of this key, or None if no Data can serve it.
abbrev pub GivesData : PlainKey → ℕ → List CachedData → Option (List ℕ) → Type 0
GivesData key now cached None = All (λ c. ¬ CanServe key now c) cached
GivesData key now cached (Some octets) =
    (c : CachedData) × IsLeast (CanServe key now) cached c × (octets ≡ c.octets)

-- Among the Data that can serve an Interest of this key, a store finds the Data with the least full
-- name. The store returns the octets of this Data, which becomes the most recently used. If no Data
-- can serve the Interest, the store returns None and is unchanged.
abbrev pub Finds : PlainKey → ℕ → StoreState → Option (List ℕ) → StoreState → Type 0
Finds key now before None after =
    All (λ c. ¬ CanServe key now c) before.cached × (after ≡ before)
Finds key now before (Some octets) after =
    (c : CachedData) × IsLeast (CanServe key now) before.cached c × (octets ≡ c.octets)
    × (after ≡ with_used before c)

-- `stays` is true for the Data that remain, and the remaining Data keep their order. The full names
-- of all removed Data begin with `name`. The removed full names are less than each remaining full
-- name that begins with `name`. `gone` is the number of removed Data.
pub record TakesLeast (name : List Field) (before after : List CachedData) (gone : ℕ) : Type 0 where
  pub stays : CachedData → Bool
  pub left : after ≡ filter stays before
  pub counted : length after + gone ≡ length before
  pub under : All (λ c. stays c ≡ false → IsPrefix name (full_name_of c)) before
  pub least : All (λ c. stays c ≡ false → All (λ d. IsPrefix name (full_name_of d)
      → Less (full_name_of c) (full_name_of d)) after) before

-- The effect of an erase: an erase removes the Data with the least full names that begin with
-- `name`. If there is a count, an erase removes at most `count` Data. If there is no count, or an
-- erase removes fewer Data than the count, no Data remains whose full name begins with `name`.
abbrev pub Erases : List Field → Option ℕ → List CachedData → List CachedData → ℕ → Type 0
Erases name count before after gone =
    TakesLeast name before after gone × IfSome count (λ n. gone ≤ n)
    × ((count ≡ Some gone) ⊎ All (λ d. ¬ IsPrefix name (full_name_of d)) after)

abbrev pub cached_code : Coded CachedData
cached_code =
    code_by (List Field × (List ℕ × (List ℕ × (ℕ × ℕ))))
    (coded× name_code (coded× (coded_list coded_ℕ)
    (coded× (coded_list coded_ℕ) (coded× coded_ℕ coded_ℕ))))
    (λ c. (c.name, (c.digest, (c.octets, (c.freshness, c.arrival)))))
    (λ p. record {
      name = p.0;
      digest = p.1.0;
      octets = p.1.1.0;
      freshness = p.1.1.1.0;
      arrival = p.1.1.1.1;
    })
    (λ _. refl)

abbrev pub state_code : Coded StoreState
state_code =
    code_by (List CachedData × ℕ) (coded× (coded_list cached_code) coded_ℕ)
    (λ s. (s.cached, s.capacity)) (λ p. record { cached = p.0; capacity = p.1 }) (λ _. refl)
