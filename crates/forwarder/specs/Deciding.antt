-- How commands and Data are decided: by the rules and, for a command, also by whether the command
-- is fresh (NDN Packet Format 0.3, "Signed Interest").
use Rattle.std.specs.Prelude.{◌≡◌, ◌⊎◌, ◌==◌, ℕ, Option, None, Some, IfSome, ⊤, if◌then◌else◌}
use Rattle.ndn_packets.specs.Packet.{PlainLocator, Missing, KeyName, Digest, Other, PlainSignatureInfo, PlainInterest, PlainFrame, AnInterest, AData, ANack, Idle}
use Rattle.ndn_packets.specs.declared.types.TheConstants.{DIGEST_SHA256}
use Rattle.info_rules.specs.declared.decision.Reason.TheVariants.{Replay}
use Rattle.info_rules.specs.declared.decision.Decision.{Decision}
use Rattle.info_rules.specs.declared.decision.Decision.TheVariants.{Allowed, Denied, NoRule}
use Rattle.info_rules.specs.Decides.{Decides}
use Rattle.replay_guard.specs.Freshness.{Signer, Recorded}
use Rattle.replay_guard.specs.Guard.{IsFresh, signer_of}
use Rattle.forwarder.specs.declared.freshness.Signed.{Signed}
use Rattle.forwarder.specs.Policy.{Policy}

-- the key name in a KeyLocator, or None if the KeyLocator is missing or contains no name
abbrev pub key_named : PlainLocator → Signer
key_named Missing = None
key_named (KeyName name) = Some name
key_named Digest = None
key_named Other = None

-- the signer of a command; all commands that are signed with DigestSha256, or whose signatures have
-- no key name, count as commands of one signer
abbrev pub signer_in : PlainSignatureInfo → Signer
signer_in info = if info.kind == DIGEST_SHA256 then None else key_named info.locator

-- what is recorded of a command with a SignatureTime: its signer, its SignatureTime and its
-- SignatureSeqNum; nothing is recorded of a command without a SignatureTime
abbrev pub recorded_with : PlainSignatureInfo → Option ℕ → Option Recorded
recorded_with info None = None
recorded_with info (Some time) =
    Some (record { signer = signer_in info; time = time; number = info.seq })

abbrev pub recorded_of : PlainInterest → Option Recorded
recorded_of i = elim i.signature [
  | None ↦ None
  | Some signature ↦ recorded_with signature.info signature.info.time
]

-- what is recorded of a command, given the values `s` that the code reads off the command's
-- Interest
abbrev pub recorded_by : Signed → Recorded
recorded_by s = record { signer = signer_of s.signer; time = s.time; number = s.seq }

-- The command is fresh. A command with a SignatureTime is fresh if this time differs from `p.now`
-- by at most 120,000 milliseconds, and the command is newer than all recorded commands of its
-- signer. A command without a SignatureTime is always fresh.
abbrev pub IsFreshCommand : Policy → PlainInterest → Type 0
IsFreshCommand p i =
    IfSome (recorded_of i) (λ r. IsFresh p.guard r.signer r.time r.number p.now)

-- if the packet is an Interest, the packet is fresh as a command (`IsFreshCommand`); for all other
-- packets the statement is true
abbrev pub IsFreshPacket : Policy → PlainFrame → Type 0
IsFreshPacket p (AnInterest whole i) = IsFreshCommand p i
IsFreshPacket p (AData whole d) = ⊤
IsFreshPacket p (ANack reason whole i) = ⊤
IsFreshPacket p Idle = ⊤

-- The packet has this decision. The first rule that applies decides; if no rule applies, the
-- decision is NoRule. If the first rule that applies allows a command that is not fresh, the
-- decision is that this rule denies the command with the reason Replay.
abbrev pub IsDecidedAs : Policy → PlainFrame → Decision → Type 0
IsDecidedAs p packet (Allowed rule) =
    Decides p.rules p.keys packet (Allowed rule) × IsFreshPacket p packet
IsDecidedAs p packet (Denied rule reason) =
    Decides p.rules p.keys packet (Denied rule reason)
    ⊎ ((reason ≡ Replay) × Decides p.rules p.keys packet (Allowed rule) × ¬ IsFreshPacket p packet)
IsDecidedAs p packet NoRule = Decides p.rules p.keys packet NoRule
