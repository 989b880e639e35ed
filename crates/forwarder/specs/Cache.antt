-- How an event uses the cache, and what the cache is after this use (NFD Developer's Guide,
-- "Content Store").
use Rattle.std.specs.Prelude.{◌≡◌, ◌⊎◌, ℕ, List, true, Option, None, Result, Ok, Err, IsTrue, is_some, ◌==◌, if◌then◌else◌}
use Rattle.sha2.specs.Sha256.{sha256}
use Rattle.ndn_tlv.specs.Element.{Field}
use Rattle.ndn_names.specs.Name.{IsPrefix}
use Rattle.ndn_packets.specs.Answers.{answers}
use Rattle.ndn_packets.specs.Key.{PlainKey, key_of}
use Rattle.ndn_packets.specs.Packet.{PlainData}
use Rattle.pit_fib.specs.Records.{Pending, is_alive, records_at}
use Rattle.content_store.specs.Store.{CachedData, Erases as IsErased, Finds, LosesSome, StoreState, full_name_of, with_cached}
use Rattle.mgmt_core.specs.declared.action.Action.TheVariants.{EraseCache}
use Rattle.mgmt_core.specs.declared.types.TheConstants.{OK}
use Rattle.mgmt_core.specs.Reading.{PlainCommand, command_at}
use Rattle.forwarder.specs.Outcome.{Outcome, Nothing, InterestPassed, CommandAllowed, DataCame, NackPassed, FaceClosed}
use Rattle.forwarder.specs.Request.{list_asked}

pub data CacheUse : Type 0 where
  Untouched : CacheUse
  -- an Interest of this key asks for Data, and the key is looked up in the cache
  LooksUp : (key : PlainKey) → CacheUse
  -- an allowed Data is offered to the cache, which may store it if some face waits for it
  Inserts : (c : CachedData) → CacheUse
  -- an allowed command erases the Data under a name, at most `count` of them if `count` is given
  Erases : (name : List Field) (count : Option ℕ) → CacheUse

-- the cached form of the Data `d` with the octets `whole`, which arrived at the moment `now`
abbrev pub held_from : ℕ → List ℕ → PlainData → CachedData
held_from now whole d = record {
  name = d.name;
  digest = sha256 whole;
  octets = whole;
  freshness = d.freshness;
  arrival = now;
}

-- How an allowed command that was answered with `status` uses the cache, given the result of
-- reading the command's name (`command_at`). If the result is an erase and the status is 200, the
-- command erases Data. In all other cases the cache is not used.
abbrev pub command_use : Result PlainCommand ℕ → ℕ → CacheUse
command_use (Err refused) status = Untouched
command_use (Ok c) status = elim c.action [
  | EraseCache ↦ if status == OK then Erases c.name c.count else Untouched
  | _ ↦ Untouched
]

-- how an event with this outcome uses the cache, at the moment `now`
abbrev pub cache_use : ℕ → Outcome → CacheUse
cache_use now Nothing = Untouched
cache_use now (InterestPassed face whole i) =
    if is_some (list_asked i) then Untouched else LooksUp (key_of i)
cache_use now (CommandAllowed face i status) = command_use (command_at i.name) status
cache_use now (DataCame whole d) = Inserts (held_from now whole d)
cache_use now (NackPassed face reason i) = Untouched
cache_use now (FaceClosed face) = Untouched

-- some face has an in-record under a key that the Data answers
abbrev pub IsAwaited : Pending → CachedData → Type 0
IsAwaited waiting c =
    (key : PlainKey) × IsTrue (answers c.name c.digest key.name key.can_be_prefix)
    × (is_alive (records_at waiting key) ≡ true)

-- the store `new` is the store `old`, except that some Data may have been dropped; no Data is
-- added, none is repeated, the order of use stays, and the capacity is the same
abbrev pub MayForget : StoreState → StoreState → Type 0
MayForget old new = LosesSome old.cached new.cached × (new.capacity ≡ old.capacity)

-- The store `new` after a use of the store `old`. The use `Untouched` changes nothing. A Data that
-- a lookup returns becomes the most recently used; a lookup that returns no Data changes nothing.
-- If some face waits for an inserted Data, there are two cases. In the first case, the Data is
-- cached. In the second case, no Data is added, but some Data may be dropped (`MayForget`). If no
-- face waits for an inserted Data, nothing changes. An erase removes Data as `IsErased` specifies,
-- and leaves the capacity unchanged.
abbrev pub CacheAfter : ℕ → Pending → CacheUse → StoreState → StoreState → Type 0
CacheAfter now waiting Untouched old new = new ≡ old
CacheAfter now waiting (LooksUp key) old new =
    (given : Option (List ℕ)) × Finds key now old given new
CacheAfter now waiting (Inserts c) old new =
    (IsAwaited waiting c × ((new ≡ with_cached old c) ⊎ MayForget old new))
    ⊎ ((¬ IsAwaited waiting c) × (new ≡ old))
CacheAfter now waiting (Erases name count) old new =
    ((gone : ℕ) × IsErased name count old.cached new.cached gone)
    × (new.capacity ≡ old.capacity)

-- The use is an erase without Count, and the name in the erase is a prefix of the full name of `c`,
-- so the erase removes `c`. For an erase with Count the statement is false, since the event alone
-- does not determine which Data such an erase removes.
abbrev pub TakesAway : CacheUse → CachedData → Type 0
TakesAway Untouched c = ⊥
TakesAway (LooksUp key) c = ⊥
TakesAway (Inserts other) c = ⊥
TakesAway (Erases name count) c = (count ≡ None) × IsPrefix name (full_name_of c)
