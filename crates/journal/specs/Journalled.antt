-- How the verdict on an event determines whether the event is journalled.
use Rattle.std.specs.Prelude.{Bool, true, false}
use Rattle.forwarder.specs.Event.{PlainEvent, Packet, FaceUp, FaceDown, Tick, NewRules}
use Rattle.forwarder.specs.Verdict.{Verdict, Passed, Allowed, DataAllowed, Denied, NoRule, Dropped}

-- whether the event may change faces or rules; such an event is journalled if its verdict is
-- `Passed`
abbrev pub is_change : PlainEvent → Bool
is_change (Packet face now octets) = false
is_change (FaceUp face scope now) = true
is_change (FaceDown face now) = true
is_change (Tick now) = false
is_change (NewRules rules keys now) = true

-- Whether an event with this verdict is journalled, given whether the event may change faces or
-- rules. An allowed Data is journalled if the repository stored it.
abbrev pub is_journalled_where : Bool → Verdict → Bool
is_journalled_where changes Passed = changes
is_journalled_where changes (Allowed rule status) = true
is_journalled_where changes (DataAllowed rule stored) = stored
is_journalled_where changes (Denied kind rule reason) = false
is_journalled_where changes (NoRule kind) = false
is_journalled_where changes (Dropped reason) = false

abbrev pub is_journalled_by : PlainEvent → Verdict → Bool
is_journalled_by event verdict = is_journalled_where (is_change event) verdict
