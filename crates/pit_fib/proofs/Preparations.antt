-- The prepared calls of a pending Interest table, and the memory for these calls.
use Rattle.std.proofs.Common.{◌≡◌, ◌⊎◌, inl, inr, ℕ, ◌≤◌, Bool, true, false, refl, sym, ap, subst, ◌∙◌}
use Rattle.std.specs.Prelude.{Option, None, Some, IfSome, is_some, not}
use Rattle.ndn_packets.specs.Key.{PlainKey}
use Rattle.name_trie.specs.NameTable.{NameTable}
use Rattle.pit_fib.specs.declared.prepared.Ready.{Ready}
use Rattle.pit_fib.specs.declared.prepared.Prepared.{Prepared}
use Rattle.pit_fib.specs.Cause.{same_key}
use Rattle.pit_fib.specs.Kept.{Row}
use Rattle.pit_fib.specs.Prepared.{CanSend, HasMemory, HasNoArrival, IsReady, calls_of, room_of}
use Rattle.pit_fib.proofs.PendingTables.{one_key, same_self}

abbrev key_in : PlainKey → Option (PlainKey × Option ℕ) → PlainKey
key_in key None = key
key_in key (Some c) = c.0

abbrev room_in : Option (PlainKey × Option ℕ) → Option ℕ
room_in None = None
room_in (Some c) = c.1

differ : true ≡ false → ⊥
differ e = absurd cc

pub none_left : (ready : Option Ready) (b : Bool) → is_some ready ≡ not b → b ≡ true → ready ≡ None
none_left None b e t = refl
none_left (Some r) b e t = absurd cc

pub some_left : (ready : Option Ready) (b : Bool) → is_some ready ≡ not b → b ≡ false → is_some ready ≡ true
some_left ready b e f = e ∙ ap not f

-- if the prepared calls are calls of this key, and no `arrive` is prepared, then the prepared calls
-- are `sent` calls of this key
pub are_sendings : (p : Prepared) (key : PlainKey) (b : Bool) → is_some p.arrival ≡ not b → b ≡ true → same_key p.key key ≡ true → calls_of (Some p) ≡ Some (key, None)
are_sendings p key b e t same = λ i. Some (one_key p.key key same i, room_of (none_left p.arrival b e t i))

-- if the key of the prepared calls is not `key`, `calls_of` does not return calls of `key`
another_key : (p : Prepared) (key : PlainKey) (room : Option ℕ) → same_key p.key key ≡ false → calls_of (Some p) ≡ Some (key, room) → ⊥
another_key p key room other e = differ (sym (same_self key) ∙ ap (λ k. same_key k key) (sym (ap (key_in key) e)) ∙ other)

-- if an `arrive` is prepared, or if the prepared calls are of another key, `calls_of` does not
-- return `Some (key, None)`, which would mean that only `sent` calls of this key are prepared
pub not_sendings : (p : Prepared) (key : PlainKey) → (is_some p.arrival ≡ true) ⊎ (same_key p.key key ≡ false) → calls_of (Some p) ≡ Some (key, None) → ⊥
not_sendings p key (inr other) e = another_key p key None other e
not_sendings p key (inl some) e = at p.arrival some (ap room_in e)
  where
    at : (ready : Option Ready) → is_some ready ≡ true → room_of ready ≡ None → ⊥
    at None some e = absurd cc
    at (Some r) some e = absurd cc

-- if an `arrive` is prepared, and the prepared calls are calls of this key, the first prepared call
-- is an `arrive` of this key with memory for some number `room` of octets
pub is_arrival : (p : Prepared) (key : PlainKey) → is_some p.arrival ≡ true → same_key p.key key ≡ true → (room : ℕ) × (calls_of (Some p) ≡ Some (key, Some room))
is_arrival p key some same =
    let found = at p.arrival some in (found.0, λ i. Some (one_key p.key key same i, found.1 i))
  where
    at : (ready : Option Ready) → is_some ready ≡ true → (room : ℕ) × (room_of ready ≡ Some room)
    at None some = absurd cc
    at (Some r) some = (r.size, refl)

-- if no `arrive` is prepared, or if the prepared calls are of another key, no `arrive` of this key
-- is prepared
pub not_arrival : (p : Prepared) (key : PlainKey) (room : ℕ) → (p.arrival ≡ None) ⊎ (same_key p.key key ≡ false) → calls_of (Some p) ≡ Some (key, Some room) → ⊥
not_arrival p key room (inr other) e = another_key p key (Some room) other e
not_arrival p key room (inl none) e = apart (sym (ap room_of none) ∙ ap room_in e)
  where
    apart : None ≡ Some room → ⊥
    apart e = absurd cc

pub arrival_room : (p : Prepared) (key : PlainKey) (room : ℕ) → calls_of (Some p) ≡ Some (key, Some room) → room_of p.arrival ≡ Some room
arrival_room p key room e = ap room_in e

-- ---- the memory of the prepared calls

pub memory_ready : (rows : NameTable Row) (spare : ℕ) (prepared : Option Prepared) → HasMemory rows spare prepared → IfSome prepared (λ p. IfSome p.arrival IsReady)
memory_ready rows spare None h = tt
memory_ready rows spare (Some p) h = at p.arrival h.1
  where
    at : (ready : Option Ready) → IfSome ready (λ r. IsReady r × (64 ≤ spare) × (rows.prepared ≡ Some p.key.name)) → IfSome ready IsReady
    at None h = tt
    at (Some r) h = h.0

-- if an `arrive` of this key is prepared, then the key's name is prepared in the table, and the
-- spare memory has capacity for 64 out-records
pub memory_arrives : (rows : NameTable Row) (spare room : ℕ) (key : PlainKey) (prepared : Option Prepared) → HasMemory rows spare prepared → calls_of prepared ≡ Some (key, Some room)
    → (64 ≤ spare) × (rows.prepared ≡ Some key.name)
memory_arrives rows spare room key None h e = absurd cc
memory_arrives rows spare room key (Some p) h e =
    let found = at p.arrival h.1 (ap room_in e) in (found.0, found.1 ∙ ap (λ (k : PlainKey). Some k.name) (ap (key_in key) e))
  where
    at : (ready : Option Ready) → IfSome ready (λ r. IsReady r × (64 ≤ spare) × (rows.prepared ≡ Some p.key.name)) → room_of ready ≡ Some room → (64 ≤ spare) × (rows.prepared ≡ Some p.key.name)
    at None h e = absurd cc
    at (Some r) h e = (h.1, h.2)

-- if calls of this key are prepared, there is memory for the out-records of `sent` calls of this
-- key
pub memory_sends : (rows : NameTable Row) (spare : ℕ) (key : PlainKey) (room : Option ℕ) (prepared : Option Prepared) → HasMemory rows spare prepared → calls_of prepared ≡ Some (key, room)
    → CanSend rows.table key spare
memory_sends rows spare key room None h e = absurd cc
memory_sends rows spare key room (Some p) h e = subst (λ k. CanSend rows.table k spare) (ap (key_in key) e) h.0

-- if no `arrive` is prepared, and there is memory for the out-records of the prepared `sent` calls,
-- then there is memory for all prepared calls
pub memory_after : (rows : NameTable Row) (spare : ℕ) (prepared : Option Prepared) → HasNoArrival prepared → ((key : PlainKey) → calls_of prepared ≡ Some (key, None) → CanSend rows.table key spare)
    → HasMemory rows spare prepared
memory_after rows spare None none h = tt
memory_after rows spare (Some p) none h = (h p.key (λ i. Some (p.key, room_of (none i))), rw none tt)

-- Let an `arrive` be prepared. There is memory for all prepared calls if the spare memory has
-- capacity for 64 out-records, the key's name is prepared in the table, and the vector for the
-- octets of the `arrive` is ready.
pub memory_new : (rows : NameTable Row) (spare size : ℕ) (p : Prepared) → 64 ≤ spare → rows.prepared ≡ Some p.key.name → room_of p.arrival ≡ Some size → IfSome p.arrival IsReady
    → HasMemory rows spare (Some p)
memory_new rows spare size p room name is ready = (inl room, at p.arrival ready)
  where
    at : (arrival : Option Ready) → IfSome arrival IsReady → IfSome arrival (λ r. IsReady r × (64 ≤ spare) × (rows.prepared ≡ Some p.key.name))
    at None h = tt
    at (Some r) h = (h, room, name)
