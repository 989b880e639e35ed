-- The texts for verdicts.
use Rattle.std.specs.Prelude.{ℕ, List, [], ◌++◌, codes, Option, Result, Ok, Err, if◌then◌else◌}
use Rattle.std.specs.Fmt.{decimal}
use Rattle.ndn_tlv.specs.declared.memory.Memory.{Memory}
use Rattle.ndn_packets.specs.FaultName.{packet_name}
use Rattle.ndn_packets.specs.Packet.{PlainFrame}
use Rattle.info_rules.specs.declared.decision.Reason.{Reason}
use Rattle.info_rules.specs.Names.{reason_name}
use Rattle.info_rules.specs.Rule.{PlainRule, is_unverified_at}
use Rattle.forwarder.specs.declared.verdict.Verdict as code
use Rattle.forwarder.specs.declared.verdict.Verdict.TheVariants as outcomes
use Rattle.forwarder.specs.Commands.{id_of}
use Rattle.forwarder.specs.Verdict.{DropReason, NoFace, Malformed, Idle, HopLimit, Scope, Loop, PitFull, NoPending, NoSegment, BadFace, FaceOpen, FacesFull, Verdict, Passed, Allowed, DataAllowed, Denied, NoRule, Dropped, verdict_of}
use Rattle.ndn_log.specs.Packet.{key_words}
use Rattle.ndn_log.specs.Words.{octets_words}

-- The reason why an event was dropped. Malformed octets are shown with their fault. A face that is
-- open already, as that of a peer after a restart, is not called dropped.
abbrev pub drop_words : DropReason → List ℕ
drop_words NoFace = codes "dropped, NoFace"
drop_words (Malformed fault) = codes "dropped, Malformed " ++ packet_name fault
drop_words Idle = codes "dropped, Idle"
drop_words HopLimit = codes "dropped, HopLimit"
drop_words Scope = codes "dropped, Scope"
drop_words Loop = codes "dropped, Loop"
drop_words PitFull = codes "dropped, PitFull"
drop_words NoPending = codes "dropped, NoPending"
drop_words NoSegment = codes "dropped, NoSegment"
drop_words BadFace = codes "dropped, BadFace"
drop_words FaceOpen = codes "open already"
drop_words FacesFull = codes "dropped, FacesFull"

-- the rule that denies a packet, and the reason of the denial
abbrev pub denial_words : List PlainRule → ℕ → Reason → List ℕ
denial_words rules rule reason =
    codes "denied by rule " ++ (id_of rules rule ++ (codes ", " ++ reason_name reason))

-- the words after the rule that allows a Data, if the rule does not verify signatures
abbrev pub unverified_words : List PlainRule → ℕ → List ℕ
unverified_words rules rule =
    if is_unverified_at rules rule then codes ", unverified" else []

-- the rule that allows a command, the name of the key in the command's KeyLocator, if the
-- KeyLocator contains a name, and the status of the reply
abbrev pub allowed_words : List PlainRule → Option PlainFrame → ℕ → ℕ → List ℕ
allowed_words rules frame rule status =
    codes "allowed by rule " ++ (id_of rules rule
    ++ (key_words frame ++ (codes ", status " ++ decimal status)))

-- The words for a verdict. Rules are shown by their ids. The words for a denial end with the name
-- of the key in the packet's KeyLocator, if the KeyLocator contains a name.
abbrev pub verdict_words : List PlainRule → Option PlainFrame → Verdict → List ℕ
verdict_words rules frame Passed = codes "passed"
verdict_words rules frame (Allowed rule status) = allowed_words rules frame rule status
verdict_words rules frame (DataAllowed rule stored) =
    codes "allowed by rule " ++ (id_of rules rule ++ unverified_words rules rule)
verdict_words rules frame (Denied kind rule reason) =
    denial_words rules rule reason ++ key_words frame
verdict_words rules frame (NoRule kind) = codes "denied, no rule applies" ++ key_words frame
verdict_words rules frame (Dropped why) = drop_words why

abbrev pub outcome_words : List PlainRule → Option PlainFrame → Result code.Verdict Memory → List ℕ
outcome_words rules frame (Ok verdict) = verdict_words rules frame (verdict_of verdict)
outcome_words rules frame (Err _) = codes "out of memory"

-- the words for the octets of a dropped packet: the number of octets and at most the first 32
-- octets; empty for other packets
abbrev pub dropped_words : List ℕ → Result code.Verdict Memory → List ℕ
dropped_words octets (Ok outcomes.Passed) = []
dropped_words octets (Ok (outcomes.Allowed rule status)) = []
dropped_words octets (Ok (outcomes.DataAllowed rule stored)) = []
dropped_words octets (Ok (outcomes.Denied kind rule reason)) = []
dropped_words octets (Ok (outcomes.NoRule kind)) = []
dropped_words octets (Ok (outcomes.Dropped why)) = codes ", " ++ octets_words octets
dropped_words octets (Err _) = []
