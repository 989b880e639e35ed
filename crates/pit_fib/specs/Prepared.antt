-- The prepared calls of a pending Interest table, for the contracts of private functions.
use Rattle.std.specs.Prelude.{◌≡◌, ◌⊎◌, ℕ, ◌≤◌, true, [], Option, None, Some, IfSome}
use Rattle.std.specs.Option.{option_map}
use Rattle.std.specs.Vec.{vec_capacity}
use Rattle.std.specs.FinMap as map
use Rattle.ndn_packets.specs.Key.{PlainKey}
use Rattle.name_trie.specs.NameTable.{NameTable}
use Rattle.pit_fib.specs.FaceSet.{AtMost64}
use Rattle.pit_fib.specs.declared.face_set.TheConstants.{MAX_FACES}
use Rattle.pit_fib.specs.declared.pit.TheConstants.{MAX_PENDING}
use Rattle.pit_fib.specs.declared.prepared.Ready.{Ready}
use Rattle.pit_fib.specs.declared.prepared.Prepared.{Prepared}
use Rattle.pit_fib.specs.Records.{is_alive}
use Rattle.pit_fib.specs.Kept.{Kept, Row, Rows, kept_at, pending_of}
use Rattle.pit_fib.specs.Pit.{HasRecord}

-- the number of octets for which the prepared `arrive` has memory, or None if no `arrive` is
-- prepared
abbrev pub room_of : Option Ready → Option ℕ
room_of ready = option_map (λ r. r.size) ready

-- the prepared calls, as they appear in the state of the table
abbrev pub calls_of : Option Prepared → Option (PlainKey × Option ℕ)
calls_of None = None
calls_of (Some p) = Some (p.key, room_of p.arrival)

-- the vector `octets` is empty, and has capacity for `size` octets
pub record IsReady (r : Ready) : Type 0 where
  pub octets : r.octets.items ≡ []
  pub room : r.size ≤ vec_capacity r.octets

-- no calls are prepared, or only `sent` calls
abbrev pub HasNoArrival : Option Prepared → Type 0
HasNoArrival prepared = IfSome prepared (λ p. p.arrival ≡ None)

-- If the key has an entry, there is memory for the out-records of 64 faces under this key: the
-- spare memory, or the own memory of the entry, has capacity for 64 out-records.
abbrev pub CanSend : Rows → PlainKey → ℕ → Type 0
CanSend rows key spare =
    (MAX_FACES ≤ spare) ⊎ ((s : Kept) → kept_at rows key ≡ Some s → s.is_wide ≡ true)

-- If calls are prepared and their key has an entry, there is memory for the out-records of 64 faces
-- under this key (`CanSend`). If an `arrive` is prepared, the spare memory has capacity for 64
-- out-records, the vector for the octets of the `arrive` is ready, and the key's name is prepared
-- in the table.
abbrev pub HasMemory : NameTable Row → ℕ → Option Prepared → Type 0
HasMemory rows spare prepared =
    IfSome prepared (λ p. CanSend rows.table p.key spare × IfSome p.arrival (λ r.
    IsReady r × (MAX_FACES ≤ spare) × (rows.prepared ≡ Some p.key.name)))

-- each key of the table has an in-record
abbrev pub AreAlive : Rows → Type 0
AreAlive rows = (k : PlainKey) (s : Kept) → kept_at rows k ≡ Some s → is_alive s.records ≡ true

-- each key of the table has an in-record, at most 64 faces have records, and the table has at most
-- 4,096 keys
pub record IsWithin (rows : Rows) : Type 0 where
  pub alive : AreAlive rows
  pub few : AtMost64 (HasRecord (pending_of rows))
  pub bounded : map.len (pending_of rows) ≤ MAX_PENDING
