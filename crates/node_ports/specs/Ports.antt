-- The arrivals that a port gives.
use Rattle.std.specs.Prelude.{ℕ, ◌≤◌, List, take, Option, None, Some, IfSome, ⊤}
use Rattle.std.specs.Global.{Vec}
use Rattle.node_ports.specs.declared.ports.TheConstants.{FRAME_ROOM}
use Rattle.node_ports.specs.Renewal.{RenewalValue}
use Rattle.forwarder.specs.declared.event.Event.{Event}
use Rattle.forwarder.specs.declared.event.Event.TheVariants as code
use Rattle.forwarder.specs.Event.{PlainEvent, Packet, FaceUp, FaceDown, Tick, NewRules, plain_by}

-- an event whose octets are the first ones of a buffer, as many as the event says
abbrev pub Arrival : Type 0
Arrival = Event ℕ RenewalValue

-- if the arrival is a packet, the packet has at most `size` octets
abbrev pub LiesWithin : ℕ → Arrival → Type 0
LiesWithin size (code.Packet face now len) = len ≤ size
LiesWithin size (code.FaceUp face scope now) = ⊤
LiesWithin size (code.FaceDown face now) = ⊤
LiesWithin size (code.Tick now) = ⊤
LiesWithin size (code.NewRules renewal now) = ⊤

-- the arrival as plain data, if its octets are the first ones of this buffer
abbrev pub arrived : Arrival → List ℕ → PlainEvent
arrived arrival buffer =
    plain_by (λ len. take len buffer) (λ renewal. renewal.rules) (λ renewal. renewal.keys) arrival

-- an arrival that owns its octets, as plain data
abbrev pub plain_arrival : Event (Vec ℕ) RenewalValue → PlainEvent
plain_arrival arrival =
    plain_by (λ octets. octets.items) (λ renewal. renewal.rules) (λ renewal. renewal.keys) arrival

-- the event; if the event brings a packet, the packet is truncated to `size` octets
abbrev pub cut_to : ℕ → PlainEvent → PlainEvent
cut_to size (Packet face now octets) = Packet face now (take size octets)
cut_to size (FaceUp face scope now) = FaceUp face scope now
cut_to size (FaceDown face now) = FaceDown face now
cut_to size (Tick now) = Tick now
cut_to size (NewRules rules keys now) = NewRules rules keys now

-- ---- an arrival that is kept

-- the event of the arrival that is kept, whose octets are these
abbrev pub held_event : Option Arrival → List ℕ → Option PlainEvent
held_event None octets = None
held_event (Some arrival) octets = Some (arrived arrival octets)

-- a packet that is kept has at most 9,001 octets
abbrev pub FitsHeld : Option Arrival → Type 0
FitsHeld arrival = IfSome arrival (LiesWithin FRAME_ROOM)
