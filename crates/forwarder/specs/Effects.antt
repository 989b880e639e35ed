-- How an event changes the policy (NFD Developer's Guide, "Forwarding"; NFD Management).
use Rattle.std.specs.Prelude.{◌≡◌, ℕ, Bool, true, false, Option, None, Some, Result, Ok, Err, nat_le, length, ◌==◌, if◌then◌else◌}
use Rattle.sha2.specs.Sha256.{sha256}
use Rattle.ndn_packets.specs.FrameReading.{frame_at}
use Rattle.ndn_packets.specs.Packet.{PlainFrame, AnInterest, AData, ANack, Idle}
use Rattle.ndn_packets.specs.declared.fault.PacketFault.{PacketFault}
use Rattle.info_rules.specs.declared.decision.Decision.{Decision}
use Rattle.info_rules.specs.declared.decision.Decision.TheVariants.{Allowed, Denied, NoRule}
use Rattle.pit_fib.specs.Fib.{without_face}
use Rattle.repo_core.specs.Repo.{after_offer}
use Rattle.pit_fib.specs.declared.face_set.TheConstants.{MAX_FACES}
use Rattle.forwarder.specs.declared.event.Scope.{Scope}
use Rattle.forwarder.specs.Event.{PlainEvent, Packet, FaceUp, FaceDown, Tick, NewRules}
use Rattle.forwarder.specs.OpenFaces.{is_open}
use Rattle.forwarder.specs.Event.{moment}
use Rattle.forwarder.specs.OpenFaces.{with_face, without_entry}
use Rattle.forwarder.specs.Policy.{Policy, at_moment, with_next_version, with_rules}
use Rattle.forwarder.specs.Request.{is_decided}
use Rattle.forwarder.specs.Deciding.{IsDecidedAs}
use Rattle.forwarder.specs.Commands.{after_allowed}

abbrev pub can_open : Policy → ℕ → Bool
can_open p face =
    if face == 0 then false else (
    if is_open face p.faces then false else (
    if nat_le MAX_FACES (length p.faces) then false else
    true))

abbrev pub with_open : Policy → ℕ → Scope → Policy
with_open p face scope =
    if can_open p face then record p { faces = with_face face scope p.faces } else p

-- The policy after a face closes. If the face was open, it is removed with its next hops and
-- routes, and the lists of routes and strategies get their next version. If the face was not open,
-- nothing changes.
abbrev pub with_closed : Policy → ℕ → Policy
with_closed p face =
    if is_open face p.faces then with_next_version (record p {
      faces = without_entry face p.faces;
      routes = without_face p.routes face;
    }) else p

-- the packet that was read from octets on this face, if rules decide the packet; None if rules do
-- not decide the packet, or if the octets are malformed
abbrev pub packet_to_decide : Policy → ℕ → Result PlainFrame PacketFault → Option PlainFrame
packet_to_decide p face (Err fault) = None
packet_to_decide p face (Ok packet) = if is_decided p face packet then Some packet else None

abbrev pub decided_packet : Policy → PlainEvent → Option PlainFrame
decided_packet p (Packet face now octets) =
    if is_open face p.faces then packet_to_decide p face (frame_at octets) else None
decided_packet p (FaceUp face scope now) = None
decided_packet p (FaceDown face now) = None
decided_packet p (Tick now) = None
decided_packet p (NewRules rules keys now) = None

-- The policy after an allowed packet. A command has its effect and is recorded. If the repository
-- wants a Data, the Data is stored, and the wants that the Data answers are removed. Neither a Nack
-- nor a link packet without a packet changes anything.
abbrev pub after_packet : Policy → ℕ → PlainFrame → Policy
after_packet p face (AnInterest whole i) = after_allowed p face i
after_packet p face (AData whole d) =
    record p { held = after_offer d.name (sha256 whole) whole p.held }
after_packet p face (ANack reason whole i) = p
after_packet p face Idle = p

-- the policy after a decision on a packet; a packet that is denied, or to which no rule applies,
-- changes nothing
abbrev pub after_decision : Policy → ℕ → PlainFrame → Decision → Policy
after_decision p face packet (Allowed rule) = after_packet p face packet
after_decision p face packet (Denied rule reason) = p
after_decision p face packet NoRule = p

abbrev pub face_in : PlainEvent → ℕ
face_in (Packet face now octets) = face
face_in (FaceUp face scope now) = face
face_in (FaceDown face now) = face
face_in (Tick now) = 0
face_in (NewRules rules keys now) = 0

-- the policy after an event that brings no packet, or a packet that rules do not decide
abbrev pub undecided_effect : Policy → PlainEvent → Policy
undecided_effect p (Packet face now octets) = p
undecided_effect p (FaceUp face scope now) = with_open p face scope
undecided_effect p (FaceDown face now) = with_closed p face
undecided_effect p (Tick now) = p
undecided_effect p (NewRules rules keys now) = with_rules p rules keys

-- `new` is the policy after the effect of `event` on the policy `p`. With `Some packet`, the event
-- brings this packet, and the rules decide whether it is allowed. With None, the event brings no
-- packet that rules decide.
abbrev pub IsEffect : Policy → PlainEvent → Policy → Option PlainFrame → Type 0
IsEffect p event new None = new ≡ undecided_effect p event
IsEffect p event new (Some packet) =
    (decision : Decision) × IsDecidedAs p packet decision
    × (new ≡ after_decision p (face_in event) packet decision)

-- Time advances to the moment of the event, and then the event has its effect. If no two keys of
-- the old policy have the same name, each packet has only one decision, so the new policy is a
-- function of the old policy and the event.
abbrev pub IsAfter : Policy → PlainEvent → Policy → Type 0
IsAfter old event new =
    let p = at_moment old (moment event) in
    IsEffect p event new (decided_packet p event)
