-- The decisions of rules on a packet.
use Rattle.std.specs.Prelude.{◌≡◌, ◌⊎◌, ◌≤◌, ℕ, List, [], Option, None, Some, All, Any}
use Rattle.key_files.specs.KeyFile.{NamedKey}
use Rattle.ndn_packets.specs.Packet.{KeyName, PlainSignature, PlainFrame, AnInterest, AData, ANack, Idle}
use Rattle.ndn_packets.specs.Covered.{Covered}
use Rattle.ndn_tlv.specs.Element.{Field}
use Rattle.info_rules.specs.declared.rule.Checker.{Checker}
use Rattle.info_rules.specs.declared.rule.Checker.TheVariants as checkers
use Rattle.info_rules.specs.declared.decision.Reason.{Reason}
use Rattle.info_rules.specs.declared.decision.Reason.TheVariants as reasons
use Rattle.info_rules.specs.declared.decision.Decision.{Decision}
use Rattle.info_rules.specs.declared.decision.Decision.TheVariants as decisions
use Rattle.info_rules.specs.Rule.{PlainRule}
use Rattle.info_rules.specs.First.{NoneApplies, IsFirst}
use Rattle.info_rules.specs.Seen.{SeenPacket, seen_interest, seen_data, SaysWhen, PlainSigned, IsSigned}
use Rattle.info_rules.specs.Checks.{Checks}
use Rattle.info_rules.specs.Locator.{MakesBoth}

-- the rank of a reason; the reason of the greatest rank is reported
abbrev pub reason_number : Reason → ℕ
reason_number reasons.NotSigned = 1
reason_number reasons.Shape = 2
reason_number reasons.SigType = 3
reason_number reasons.KeyLocator = 4
reason_number reasons.KeyUnknown = 5
reason_number reasons.Tag = 6
reason_number reasons.Replay = 7

-- `greatest` is the one of the reasons `earlier` and `reason` that has the greater rank, or
-- `reason` if `earlier` is `None`
abbrev pub IsGreater : Option Reason → Reason → Reason → Type 0
IsGreater None reason greatest = greatest ≡ reason
IsGreater (Some earlier) reason greatest =
    ((greatest ≡ earlier) × (reason_number reason ≤ reason_number earlier))
    ⊎ ((greatest ≡ reason) × (reason_number earlier ≤ reason_number reason))

-- the packet passes at least one checker
abbrev pub IsPassed : List NamedKey → List Checker → PlainSigned → Type 0
IsPassed keys all signed = Any (λ checker. Checks keys checker signed None) all

-- the checker denies the packet for a reason whose rank is at most the rank of `reason`
abbrev pub IsAtMost : List NamedKey → PlainSigned → Reason → Checker → Type 0
IsAtMost keys signed reason checker =
    (given : Reason) × Checks keys checker signed (Some given)
    × (reason_number given ≤ reason_number reason)

-- The packet passes no checker, and `reason` is the one of the checkers' reasons that has the
-- greatest rank. If the rule has no checkers, `reason` is `KeyLocator`.
abbrev pub IsGreatest : List NamedKey → List Checker → PlainSigned → Reason → Type 0
IsGreatest keys all signed reason =
    ((all ≡ []) × (reason ≡ reasons.KeyLocator))
    ⊎ (All (IsAtMost keys signed reason) all
    × Any (λ checker. Checks keys checker signed (Some reason)) all)

-- the packet is signed as `IsSigned` states, and it passes at least one checker
abbrev pub Allow : List NamedKey → List Checker → SeenPacket → Type 0
Allow keys all packet = (signed : PlainSigned) × IsSigned packet signed × IsPassed keys all signed

-- the packet is signed as `IsSigned` states, it passes no checker, and `reason` is the reason that
-- `IsGreatest` states
abbrev pub DenyBy : List NamedKey → List Checker → SeenPacket → Reason → Type 0
DenyBy keys all packet reason =
    (signed : PlainSigned) × IsSigned packet signed × IsGreatest keys all signed reason

-- an Interest without SignatureTime, or an Interest whose signature covers nothing because its
-- parameters digest is not the last component of its name
abbrev pub IsMisshaped : SeenPacket → PlainSignature → Type 0
IsMisshaped packet signature =
    (¬ SaysWhen packet.kind signature)
    ⊎ ((first second : List ℕ) → Covered packet.frame first second → ⊥)

-- the packet is denied before any checker examines it: the reason is `NotSigned` for a packet
-- without a signature, and `Shape` for a misshaped packet
abbrev pub IsUnfit : SeenPacket → Reason → Type 0
IsUnfit packet reasons.NotSigned = packet.signature ≡ None
IsUnfit packet reasons.Shape =
    (signature : PlainSignature) × (packet.signature ≡ Some signature)
    × IsMisshaped packet signature
IsUnfit packet reasons.SigType = ⊥
IsUnfit packet reasons.KeyLocator = ⊥
IsUnfit packet reasons.KeyUnknown = ⊥
IsUnfit packet reasons.Tag = ⊥
IsUnfit packet reasons.Replay = ⊥

-- a rule with these checkers denies the packet for this reason
abbrev pub Deny : List NamedKey → List Checker → SeenPacket → Reason → Type 0
Deny keys all packet reason = IsUnfit packet reason ⊎ DenyBy keys all packet reason

abbrev pub DecideSeen : List PlainRule → List NamedKey → SeenPacket → Decision → Type 0
DecideSeen rules keys packet (decisions.Allowed n) =
    (rule : PlainRule) × IsFirst rules packet.kind packet.name n.0 rule
    × Allow keys rule.checkers packet
DecideSeen rules keys packet (decisions.Denied n reason) =
    (rule : PlainRule) × IsFirst rules packet.kind packet.name n.0 rule
    × Deny keys rule.checkers packet reason
DecideSeen rules keys packet decisions.NoRule = NoneApplies rules packet.kind packet.name

-- The decision on an Interest or a Data is that of the first rule that applies, or `NoRule` if no
-- rule applies. Other frames have no decision.
abbrev pub Decides : List PlainRule → List NamedKey → PlainFrame → Decision → Type 0
Decides rules keys (AnInterest whole i) decision =
    DecideSeen rules keys (seen_interest whole i) decision
Decides rules keys (AData whole d) decision = DecideSeen rules keys (seen_data whole d) decision
Decides rules keys (ANack reason whole i) decision = ⊥
Decides rules keys Idle decision = ⊥

-- ---- the need for memory

-- the checker expands both templates, for the key's name and for the packet's name, and neither
-- expanded name is too long
abbrev pub Expands : Checker → PlainSigned → Type 0
Expands checkers.Sha256 signed = ⊥
Expands (checkers.Keyed algorithm test) signed =
    (key : List Field) × (signed.signature.info.locator ≡ KeyName key)
    × MakesBoth test key signed.name
Expands checkers.Unsupported signed = ⊥
Expands checkers.Unverified signed = ⊥

-- at least one checker expands its templates
abbrev pub AnyExpands : List Checker → SeenPacket → Type 0
AnyExpands all packet = (signed : PlainSigned) × IsSigned packet signed
    × Any (λ checker. Expands checker signed) all

-- a checker of the first rule that applies expands its templates
abbrev pub AsksForMemory : List PlainRule → SeenPacket → Type 0
AsksForMemory rules packet =
    (n : ℕ) × (rule : PlainRule) × IsFirst rules packet.kind packet.name n rule
    × AnyExpands rule.checkers packet

abbrev pub MayRefuse : List PlainRule → PlainFrame → Type 0
MayRefuse rules (AnInterest whole i) = AsksForMemory rules (seen_interest whole i)
MayRefuse rules (AData whole d) = AsksForMemory rules (seen_data whole d)
MayRefuse rules (ANack reason whole i) = ⊥
MayRefuse rules Idle = ⊥
