-- The memory that is prepared for a command.
use Rattle.std.specs.Prelude.{◌≡◌, ℕ, ◌<◌, ◌≤◌, ◌^◌, ◌⊎◌, Option, None, Some, length, vec_capacity}
use Rattle.mgmt_core.specs.declared.action.Action.TheVariants.{AddNexthop, Register, SetStrategy}
use Rattle.mgmt_core.specs.declared.reply_body.ReplyRoom.{ReplyRoom}
use Rattle.mgmt_core.specs.declared.tables.Tables.{Tables}
use Rattle.mgmt_core.specs.Reading.{PlainCommand}
use Rattle.ndn_tlv.specs.Writing.{octets}
use Rattle.mgmt_core.specs.Writing.{reply_body, reply_fields}

-- the reserved memory is enough for the body of a reply to the command, whichever face the command
-- comes from
abbrev pub HasRoomForReply : ReplyRoom → PlainCommand → Type 0
HasRoomForReply room c =
    (face : ℕ) → face < 2 ^ 64
    → (length (octets (reply_fields c face)) ≤ vec_capacity room.fields)
    × (length (reply_body c face) ≤ vec_capacity room.body)

-- the table that the command `c` may enlarge is prepared for the name `c.name`; always true for
-- commands that enlarge no table
abbrev pub IsCallPrepared : Tables → PlainCommand → Type 0
IsCallPrepared t c =
    elim c.action [
      | AddNexthop ↦ t.fib.prepared ≡ Some c.name
      | Register ↦ t.fib.prepared ≡ Some c.name
      | SetStrategy ↦ t.strategies.prepared ≡ Some c.name
      | _ ↦ Unit {0}
    ]

-- there is memory for the body of a reply to the command `c`, and the table that the command may
-- enlarge, if there is one, is prepared for the name `c.name`
abbrev pub IsPrepared : Tables → PlainCommand → Type 0
IsPrepared t c = HasRoomForReply t.room c × IsCallPrepared t c

-- the preparation is unchanged, or has ended (None)
abbrev pub IsKeptOrEnded : {X : Type 0} → Option X → Option X → Type 0
IsKeptOrEnded before after = (after ≡ before) ⊎ (after ≡ None)
