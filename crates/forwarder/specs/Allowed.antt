-- Which commands and Data of a run were allowed.
use Rattle.std.specs.Prelude.{◌≡◌, ◌⊎◌, ℕ, Some, max}
use Rattle.ndn_packets.specs.Packet.{PlainFrame}
use Rattle.info_rules.specs.declared.rules.RuleNo.{RuleNo}
use Rattle.info_rules.specs.declared.decision.Decision.TheVariants.{Allowed}
use Rattle.forwarder.specs.Event.{PlainEvent}
use Rattle.forwarder.specs.Event.{moment}
use Rattle.forwarder.specs.Policy.{Policy, at_moment}
use Rattle.forwarder.specs.Deciding.{IsDecidedAs}
use Rattle.forwarder.specs.Effects.{decided_packet}
use Rattle.forwarder.specs.Runs.{Run, Start, Then, IsPolicyOf, now_of}

-- the event brings this packet, and the decision on the packet is to allow it; `was` is the policy
-- before the event
pub record Allows (was : Policy) (event : PlainEvent) (packet : PlainFrame) : Type 0 where
  pub rule : RuleNo
  pub brings : decided_packet (at_moment was (moment event)) event ≡ Some packet
  pub said : IsDecidedAs (at_moment was (moment event)) packet (Allowed rule)

-- some event of the run brought this packet, and the packet was allowed at that event; `first` is
-- the policy before the run
abbrev pub AllowedIn : Policy → Run → PlainFrame → Type 0
AllowedIn first Start packet = ⊥
AllowedIn first (Then before event answer) packet =
    AllowedIn first before packet
    ⊎ ((was : Policy) × IsPolicyOf first before was × Allows was event packet)

-- some event of the run brought this packet, and the packet was allowed at that event; `now` is the
-- greatest moment of the run's events, up to and including that event
abbrev pub AllowedAt : Policy → Run → PlainFrame → ℕ → Type 0
AllowedAt first Start packet now = ⊥
AllowedAt first (Then before event answer) packet now =
    AllowedAt first before packet now
    ⊎ ((was : Policy) × IsPolicyOf first before was × Allows was event packet
    × (now ≡ max (now_of before) (moment event)))
