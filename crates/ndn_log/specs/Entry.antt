-- Events as a log shows them.
use Rattle.std.specs.Prelude.{ℕ, List, [], Bool, true, false, Option, None, Some, Result, Ok, Err, not, if◌then◌else◌}
use Rattle.ndn_tlv.specs.declared.memory.Memory.{Memory}
use Rattle.forwarder.specs.declared.verdict.DropReason.{DropReason}
use Rattle.forwarder.specs.declared.verdict.DropReason.TheVariants.{FaceOpen}
use Rattle.forwarder.specs.declared.verdict.Verdict.{Verdict}
use Rattle.forwarder.specs.declared.verdict.Verdict.TheVariants.{Passed, Allowed, DataAllowed, Denied, NoRule, Dropped}
use Rattle.std.specs.Borrow.{Bor}
use Rattle.forwarder.specs.declared.event.Event.{Event}
use Rattle.forwarder.specs.declared.event.Event.TheVariants.{Packet, FaceUp, FaceDown, Tick, NewRules}

-- an event without new rules and keys
abbrev pub LoggedEvent : Type 0
LoggedEvent = Event (Bor (List ℕ)) (Unit {0})

-- the octets that arrived, or no octets if the event is not a packet
abbrev pub octets_in : LoggedEvent → List ℕ
octets_in (Packet face now octets) = octets.now
octets_in (FaceUp face scope now) = []
octets_in (FaceDown face now) = []
octets_in (Tick now) = []
octets_in (NewRules rules now) = []

-- whether the reason is that a face is open already, as the face of a peer after a restart
abbrev pub is_open_already : DropReason → Bool
is_open_already FaceOpen = true
is_open_already why = false

abbrev pub is_plain_outcome : Result Verdict Memory → Bool
is_plain_outcome (Ok Passed) = true
is_plain_outcome (Ok (Allowed rule status)) = false
is_plain_outcome (Ok (DataAllowed rule stored)) = true
is_plain_outcome (Ok (Denied kind rule reason)) = false
is_plain_outcome (Ok (NoRule kind)) = false
is_plain_outcome (Ok (Dropped why)) = is_open_already why
is_plain_outcome (Err _) = false

-- Whether the event is plain: it does not bring new rules, and its verdict is `Passed` or
-- `DataAllowed`, or says that the face is open already. A log that does not show all events leaves
-- out plain events.
abbrev pub is_plain : LoggedEvent → Result Verdict Memory → Bool
is_plain (Packet face now octets) outcome = is_plain_outcome outcome
is_plain (FaceUp face scope now) outcome = is_plain_outcome outcome
is_plain (FaceDown face now) outcome = is_plain_outcome outcome
is_plain (Tick now) outcome = is_plain_outcome outcome
is_plain (NewRules rules now) outcome = false

-- whether the verdict is a denial or a drop, except that of a face that is open already
abbrev pub is_refusal : Result Verdict Memory → Bool
is_refusal (Ok Passed) = false
is_refusal (Ok (Allowed rule status)) = false
is_refusal (Ok (DataAllowed rule stored)) = false
is_refusal (Ok (Denied kind rule reason)) = true
is_refusal (Ok (NoRule kind)) = true
is_refusal (Ok (Dropped why)) = not (is_open_already why)
is_refusal (Err _) = false

-- The face of a packet that was denied or dropped, or the face that could not open, or None for
-- another event. The lines of these events are limited (`Limits`), unless all events are shown.
abbrev pub refused_on : LoggedEvent → Result Verdict Memory → Option ℕ
refused_on (Packet face now octets) outcome = if is_refusal outcome then Some face else None
refused_on (FaceUp face scope now) outcome = if is_refusal outcome then Some face else None
refused_on (FaceDown face now) outcome = None
refused_on (Tick now) outcome = None
refused_on (NewRules rules now) outcome = None
