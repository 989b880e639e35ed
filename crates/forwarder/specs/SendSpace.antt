-- The sends of an outbox, and the memory that is reserved for further sends.
use Rattle.std.specs.Prelude.{ℕ, ◌+◌, ◌*◌, List, [], length, Bool, Option, None, Some, if◌then◌else◌}
use Rattle.ndn_packets.specs.declared.fault.WriteFault.{WriteFault}
use Rattle.ndn_packets.specs.declared.interest_writer.InterestWriter.{InterestWriter}
use Rattle.ndn_packets.specs.Writing.{interest_refusal, interest_text}
use Rattle.pit_fib.specs.declared.face_set.TheConstants.{MAX_FACES}
use Rattle.forwarder.specs.declared.sends.TheConstants.{LINK_EXTRA}
use Rattle.forwarder.specs.Event.{Send, to_each}

pub record SendsState : Type 0 where
  pub sends : List Send
  pub places : ℕ
  pub space : ℕ

-- the sends, or no sends if there was a fault in writing their octets
abbrev pub unless_refused : Option WriteFault → List Send → List Send
unless_refused None sends = sends
unless_refused (Some fault) sends = []

-- the sends of the node's own Interest to each of these faces; no sends if the Interest cannot be
-- written
abbrev pub fetched : List ℕ → InterestWriter → List Send
fetched faces w = unless_refused (interest_refusal w) (to_each faces (interest_text w))

-- The number of octets to reserve for sending a Data to the faces that asked for it. With tokens,
-- the number is `MAX_FACES` times the sum of the length of the Data and `LINK_EXTRA`. Without
-- tokens, the number is the length of the Data.
abbrev pub room_for_data : List ℕ → Bool → ℕ
room_for_data whole with_tokens =
    if with_tokens then MAX_FACES * (length whole + LINK_EXTRA) else length whole
